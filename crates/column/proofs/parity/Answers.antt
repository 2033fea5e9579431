-- The left sides of the equations, one at a time: the terms of each are those of the one before, times their points.
use Rattle.std.proofs.Common.{◌≡◌, ◌≤◌, ◌<◌, ◌∙◌, ℕ, length, length-take, arith}
use lib.ListN.{get_or-append}
use Rattle.lists.proofs.Stores.{stored_more}
use Rattle.column.specs.Column.{parity}
use Rattle.column.proofs.Terms.{terms_more, terms_total, terms_long, terms_next, terms_added}
use Rattle.column.proofs.parity.Goals as goal

pub loop-sum-preserved : goal.loop-sum-preserved
loop-sum-preserved c =
    let l = c.loop-sum in
    let s = c.args in
    let room : length s.points.now ≤ length l.terms = omega arith in
    let w = c.advance.ensures in (
      terms_long s.q s.points.now s.column.now l.terms _ _ room w ∙ l.invariant.0,
      λ i h. terms_more s.q s.points.now s.column.now l.sum-index i _ _ (l.invariant.1 i h) (terms_next s.q s.points.now s.column.now l.terms _ _ room w i h),
      stored_more (λ u x. x ≡ parity s.q s.points.now s.column.now u) l.sum-items l.sum-index _ 0 (omega arith) l.invariant.2
          (terms_added s.q s.points.now s.column.now l.terms _ _ room w ∙ terms_total s.q s.points.now s.column.now l.sum-index l.terms l.invariant.1),
    )

pub returns : goal.returns
returns c = λ t h. let l = c.loop-sum in let in_it : t < length l.sum-items = omega (arith, length-take {A = ℕ}) in get_or-append _ _ 0 t in_it ∙ l.invariant.2 t (omega arith)
