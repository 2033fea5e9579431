-- `batches::differences` meets its contract. Assumes nothing.
use lib.ListN.{get_or}
use Rattle.field.specs.Residues.{minus}
use Rattle.code.specs.Code.{narrow}
use Rattle.batches.specs.Batches.{Stored}
use Rattle.batches.proofs.differences.Given as goal

abbrev pub invariant-loop-x : goal.invariant-loop-x
invariant-loop-x l = Stored l.x (λ i. i) (λ i. minus narrow.modulus (get_or l.sums i 0) (get_or l.symbols i 0)) l.initial.left l.left
