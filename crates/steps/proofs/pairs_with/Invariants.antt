-- `steps::pairs_with` meets its contract. Assumes nothing.
use Prim.Native.Nat.{◌-◌, ◌≤◌}
use lib.ListN.{take}
use Rattle.steps.proofs.Pieces.{Pieces}
use Rattle.steps.proofs.Turned.{BatchPaired}
use Rattle.steps.proofs.pairs_with.Given as goal

abbrev pub invariant-loop-b : goal.invariant-loop-b
invariant-loop-b l = (l.b ≤ l.batches) × Pieces l.batches l.block (BatchPaired (take l.count l.table) l.turn l.pairs) l.b l.initial.symbols l.symbols

abbrev pub decreases-loop-b : goal.decreases-loop-b
decreases-loop-b l = l.batches - l.b
