-- `choosing::needs_of` meets its contract: the losses are judged in turn, and `least` is what those before i need. Assumes nothing.
use mathlib.Core.Path.{◌≡◌, refl, sym, ◌∙◌}
use mathlib.Core.Bool.{true}
use Prim.Native.Nat.{◌-◌, ◌<◌}
use native.Mathlib.Omega.{arith}
use lib.ListN.{get_or}
use Rattle.lists.proofs.Scans.{all_pass, all_fail, all_end}
use Rattle.shape.specs.Shape.{most_nodes, within}
use Rattle.shape.proofs.Accepted.{within_true}
use Rattle.shape.proofs.Batches.{batch_positive}
use Rattle.choosing.proofs.Needed.{any_served, divisor_small, needed_none, needed_more, needed_all, needed_outside, needed_inside}
use Rattle.choosing.proofs.needs_of.Goals as goal
use Rattle.choosing.proofs.needs_of.Goals.{Else-not-within}

pub loop-h-init : goal.loop-h-init
loop-h-init c = (omega arith, refl, needed_none _)

pub returns-then-not-within : goal.returns-then-not-within
returns-then-not-within c =
    let i = c.loop-h.invariant in
    needed_outside _ _ (i.1 ∙ all_fail _ _ _ c.loop-h-test.true (sym c.within.ensures ∙ c.if-not-within.true))

-- a loss that is passed is in its range
ranged : (c : Else-not-within) →
    let a = c.args in
    within 1 a.most (get_or a.losses.now c.loop-h.h-index 0) ≡ true
ranged c = sym c.within.ensures ∙ c.if-not-within.false

-- and below the most nodes
few : (c : Else-not-within) →
    get_or c.args.losses.now c.loop-h.h-index 0 < most_nodes
few c = omega (arith, (within_true _ _ _ (ranged c)).1)

pub batch-requires : goal.batch-requires
batch-requires c = omega (arith, few c)

pub common-least-requires : goal.common-least-requires
common-least-requires c =
    let N = c.loop-h.invariant.2 in
    rw c.batch.ensures
    (N.positive, omega (arith, divisor_small _ N.divides), batch_positive _, omega (arith, divisor_small _ (any_served _ (few (goal.at.common-least-requires c).Else-not-within))))

pub loop-h-preserved : goal.loop-h-preserved
loop-h-preserved c =
    let e = (goal.at.loop-h-preserved c).Else-not-within in
    let i = e.loop-h.invariant in (
      omega arith,
      i.1 ∙ all_pass _ _ _ e.loop-h-test.true (ranged e),
      needed_more _ _ _ i.2 _ e.loop-h-test.true (few e) (rw (← c.batch.ensures) c.common-least.ensures),
    )

pub returns : goal.returns
returns c =
    let i = c.loop-h.invariant in
    needed_inside _ _ _ (i.1 ∙ all_end _ _ _ c.loop-h-test.false) i.2.positive (needed_all _ _ _ i.2 c.loop-h-test.false)
