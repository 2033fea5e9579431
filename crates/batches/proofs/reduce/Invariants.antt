-- `batches::reduce` meets its contract. Assumes nothing.
use Rattle.code.specs.Code.{narrow}
use Rattle.batches.specs.Batches.{remainder, Stored}
use Rattle.batches.proofs.reduce.Given as goal

abbrev pub invariant-loop-sum : goal.invariant-loop-sum
invariant-loop-sum l = Stored l.sum-index (λ i. i) (remainder narrow.modulus l.initial.sums) l.initial.sums l.sums
