-- `column::eliminated` meets its contract. Assumes nothing.
use Rattle.std.proofs.Common.{◌≡◌, ◌+◌, ◌<◌, ℕ, refl, sym, ◌∙◌, length, length-take, arith}
use lib.ListN.{get_or-append}
use Rattle.lists.specs.Lists.{element}
use Rattle.lists.proofs.Stores.{stored_more}
use Rattle.column.specs.Solving.{eliminated}
use Rattle.column.proofs.Elimination.{less_ext, eliminated_more}
use Rattle.column.proofs.eliminated.Invariants.{top}
use Rattle.column.proofs.eliminated.Goals as goal

pub loop-i-init : goal.loop-i-init
unfolding eliminated
loop-i-init c = (λ l h. absurd (omega arith), λ t h. refl)

pub loop-i-preserved : goal.loop-i-preserved
loop-i-preserved c =
    let l = c.loop-i in
    let s = c.args in
    let in_it : l.i < s.r = omega (arith, length-take {A = ℕ}) in (
      stored_more (λ k x. x ≡ top s.q s.points s.side k) l.equation-items l.i _ 0 (omega arith) l.invariant.0 (l.invariant.1 0 (omega arith)),
      λ t h.
          c.less-left.ensures t (omega arith)
          ∙ less_ext s.q (element s.points l.i) _ _ t (l.invariant.1 t (omega arith)) (l.invariant.1 (t + 1) (omega arith))
          ∙ sym (eliminated_more s.q (element s.points) l.i (element s.side) t),
    )

pub returns : goal.returns
returns c = λ i h. let l = c.loop-i in let in_it : i < length l.equation-items = omega (arith, length-take {A = ℕ}) in get_or-append _ _ 0 i in_it ∙ l.invariant.0 i (omega arith)
