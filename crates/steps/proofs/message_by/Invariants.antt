-- `steps::message_by` meets its contract: batch by batch, by the members of the rank's class. Assumes nothing.
use Prim.Native.Nat.{◌-◌, ◌≤◌}
use lib.ListN.{take}
use Rattle.code.specs.Code.{narrow}
use Rattle.steps.proofs.Pieces.{Pieces}
use Rattle.steps.proofs.Turned.{BatchAdded}
use Rattle.steps.proofs.message_by.Given as goal

abbrev pub invariant-loop-b : goal.invariant-loop-b
invariant-loop-b l = (l.b ≤ l.batches) × Pieces l.batches l.count (BatchAdded narrow (take l.count l.table) l.turn l.block l.symbols) l.b l.initial.message l.message

abbrev pub decreases-loop-b : goal.decreases-loop-b
decreases-loop-b l = l.batches - l.b
