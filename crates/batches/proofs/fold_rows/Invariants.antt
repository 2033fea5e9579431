-- `batches::fold_rows` meets its contract. Assumes nothing.
use lib.ListN.{length}
use Rattle.lists.specs.Lists.{range}
use Rattle.code.specs.Code.{narrow}
use Rattle.batches.specs.Batches.{added_in, Remain}
use Rattle.batches.proofs.fold_rows.Given as goal

abbrev pub invariant-loop-x : goal.invariant-loop-x
invariant-loop-x l = Remain narrow.modulus l.x (added_in narrow (range 0 (length l.initial.sums)) l.turn l.symbols) l.sums
