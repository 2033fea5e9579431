-- `steps::cross` meets its contract. Assumes nothing.
use Prim.Native.Nat.{◌-◌, ◌≤◌}
use lib.ListN.{take}
use Rattle.code.specs.Code.{narrow}
use Rattle.steps.proofs.Pieces.{Pieces}
use Rattle.steps.proofs.Turned.{BatchCrossed}
use Rattle.steps.proofs.cross.Given as goal

abbrev pub invariant-loop-b : goal.invariant-loop-b
invariant-loop-b l = (l.b ≤ l.batches) × Pieces l.batches l.block (BatchCrossed narrow (take l.count l.table) l.near l.far l.sums) l.b l.initial.symbols l.symbols

abbrev pub decreases-loop-b : goal.decreases-loop-b
decreases-loop-b l = l.batches - l.b
