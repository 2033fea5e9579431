-- `solving::spread` meets its contract: no two places are one. Assumes nothing.
use mathlib.Core.Path.{◌≡◌, ap, ◌∙◌}
use Prim.Native.Nat.{◌%◌, ◌<◌}
use native.Mathlib.Omega.{arith}
use lib.ListN.{length, take, length-take}
use lib.Seq.{get_or-take}
use Rattle.std.proofs.lemmas.List.{length_push}
use Rattle.std.proofs.lemmas.Slice.Zip.{zip_turn}
use Rattle.rows.specs.Rows.{remainder}
use Rattle.solving.proofs.Puts.{spread_more}
use Rattle.solving.proofs.spread.Goals as goal

pub loop-sum-preserved : goal.loop-sum-preserved
unfolding remainder
loop-sum-preserved c =
    let a = c.args in
    let p = c.requires.1 in
    let z = zip_turn (take a.run a.sums) a.at.now c.loop-sum.yielded c.into_iter-sum-iterator.result c.loop-sum.sum-iterator c.next.new.self c.next.result
    (ap (λ s. s.a.rest.now) c.into_iter-sum-iterator.ensures.into_iter_gives ∙ ap (λ s. s.rest.now) c.zip-sum-items.ensures.first ∙ c.iter.ensures.rest)
    (ap (λ s. s.b.rest.now) c.into_iter-sum-iterator.ensures.into_iter_gives ∙ c.zip-sum-items.ensures.second.0)
    c.loop-sum.yielded_by (c.in-Some.field-0-0, c.in-Some.field-0-1) c.in-Some.is c.next.ensures.steps in
    let n = length c.loop-sum.yielded in
    let low : n < a.run = omega (arith, z.0, length-take a.run a.sums) in
    rw (length_push c.loop-sum.yielded _, z.3 0)
    (spread_more _ _ _ _ n _ _ c.loop-sum.invariant (p.inside n low) (ap (λ x. x % 257) (z.2 0 ∙ get_or-take a.run a.sums n 0 low))
    (λ i h e. let q : i ≡ n = p.apart i n (omega (arith, h, low)) low e in omega (arith, h, q)))
