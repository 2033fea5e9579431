-- `batches::reduce` meets its contract. Assumes nothing.
use mathlib.Core.Path.{◌≡◌, refl, ap}
use Prim.Native.Nat.{◌%◌}
use native.Mathlib.Omega.{arith}
use lib.ListN.{length, get_or}
use Rattle.lists.proofs.Tables.{is_tabulate}
use Rattle.code.specs.Code.{narrow}
use Rattle.batches.specs.Batches.{remainder}
use Rattle.batches.proofs.Batches.{stored_more}
use Rattle.batches.proofs.reduce.Goals as goal

pub loop-sum-preserved : goal.loop-sum-preserved
unfolding remainder
loop-sum-preserved c =
    let l = c.loop-sum in
    let old = c.args.sums.now in
    let e : get_or l.sums l.sum-index 0 ≡ get_or old l.sum-index 0 = l.invariant.rest l.sum-index (λ i h z. omega arith) in
    stored_more (λ i. i) (remainder narrow.modulus old) old l.sum-index l.sum-index _ l.sums l.invariant refl (omega arith) (λ i h z. omega arith) (ap (λ z. z % 257) e)

pub returns : goal.returns
returns c =
    let l = c.loop-sum in
    let old = c.args.sums.now in
    is_tabulate l.sums (length old) (remainder narrow.modulus old) 0 l.invariant.long (λ i h. l.invariant.each i (omega arith))
