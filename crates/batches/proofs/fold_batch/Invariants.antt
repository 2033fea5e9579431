-- `batches::fold_batch` meets its contract. Assumes nothing.
use Rattle.code.specs.Code.{narrow}
use Rattle.batches.specs.Batches.{added_in, Remain}
use Rattle.batches.proofs.fold_batch.Given as goal

abbrev pub invariant-loop-x : goal.invariant-loop-x
invariant-loop-x l = Remain narrow.modulus l.x (added_in narrow l.members l.turn l.symbols) l.sums
