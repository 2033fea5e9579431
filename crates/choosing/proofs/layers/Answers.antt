-- `choosing::layers` meets its contract: n and k, the losses, and what they need are judged in turn. Assumes nothing.
use mathlib.Core.Path.{◌≡◌, sym, ◌∙◌}
use mathlib.Core.Bool.{false}
use native.Mathlib.Omega.{arith}
use Rattle.shape.specs.Refusals.{shape_bad}
use Rattle.shape.proofs.Accepted.{shape_accepted}
use Rattle.shape.proofs.Answers.{handed_on}
use Rattle.choosing.proofs.Needed.{needed_least, needed_over, needed_ranged}
use Rattle.choosing.proofs.Promised.{counts_refused, turned_for, none_refused, chosen}
use Rattle.choosing.proofs.layers.Goals as goal
use Rattle.choosing.proofs.layers.Goals.{Else-shape_bad}

pub returns-then-shape_bad : goal.returns-then-shape_bad
returns-then-shape_bad c = counts_refused _ _ _ (sym c.shape_bad.ensures ∙ c.if-shape_bad.true)

-- n and k are in their ranges where the first test is passed
counts : (c : Else-shape_bad) →
    let a = c.args in
    shape_bad (record { n = a.n; k = a.k; layers = 1 }) ≡ false
counts c = sym c.shape_bad.ensures ∙ c.if-shape_bad.false

pub overflow_sub-n : goal.overflow_sub-n
overflow_sub-n c = omega (arith, shape_accepted _ (counts c))

pub overflow_sub-n-2 : goal.overflow_sub-n-2
overflow_sub-n-2 c = omega (arith, shape_accepted _ (counts c))

pub needs_of-requires : goal.needs_of-requires
needs_of-requires c = omega (arith, shape_accepted _ (counts c))

pub returns-in_err-least : goal.returns-in_err-least
returns-in_err-least c =
    rw (handed_on _ c.from_residual.ensures.1)
    (turned_for _ _ _ (counts (goal.at.returns-in_err-least c).Else-shape_bad) _ _ c.needs_of.ensures c.in_err-least.was)

pub returns-then-least-gt-MOST_LAYERS : goal.returns-then-least-gt-MOST_LAYERS
returns-then-least-gt-MOST_LAYERS c =
    let N = c.needs_of.ensures in
    let e = c.in_ok-least.was in
    none_refused _ _ _ (counts (goal.at.returns-then-least-gt-MOST_LAYERS c).Else-shape_bad) (needed_ranged _ _ _ _ N e)
    (needed_over _ _ (N.positive _ e) (N.multiples _ e) c.if-least-gt-MOST_LAYERS.true)

pub returns : goal.returns
returns c =
    let N = c.needs_of.ensures in
    let e = c.in_ok-least.was in
    let l = c.if-least-gt-MOST_LAYERS.false in
    chosen _ _ _ (counts (goal.at.returns c).Else-shape_bad) (needed_ranged _ _ _ _ N e) _
    (needed_least _ _ (N.positive _ e) (N.multiples _ e) l) l
