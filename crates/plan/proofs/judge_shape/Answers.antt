-- `plan::judge_shape` meets its contract: the shape, then h. Assumes nothing.
use mathlib.Core.Path.{◌≡◌, sym, ◌∙◌}
use mathlib.Core.Bool.{false}
use native.Mathlib.Omega.{arith}
use Rattle.shape.specs.Refusals.{shape_bad}
use Rattle.shape.proofs.Accepted.{shape_accepted}
use Rattle.transfers.specs.Plan.{shape_number}
use Rattle.plan.proofs.judge_shape.Goals as goal
use Rattle.plan.proofs.judge_shape.Goals.{Else-shape_bad}

-- where the shape is judged
good : (c : Else-shape_bad) → shape_bad c.args.s ≡ false
good c = sym c.shape_bad.ensures ∙ c.if-shape_bad.false

pub returns-then-shape_bad : goal.returns-then-shape_bad
unfolding shape_number
returns-then-shape_bad c = simp (sym c.shape_bad.ensures, c.if-shape_bad.true)

pub overflow_sub-n : goal.overflow_sub-n
overflow_sub-n c = omega (arith, shape_accepted _ (good c))

pub overflow_sub-n-2 : goal.overflow_sub-n-2
overflow_sub-n-2 c = omega (arith, shape_accepted _ (good c))

pub returns-then-not-within : goal.returns-then-not-within
unfolding shape_number
returns-then-not-within c = simp (good (goal.at.returns-then-not-within c).Else-shape_bad, sym c.within.ensures, c.if-not-within.true)

pub returns : goal.returns
unfolding shape_number
returns c = simp (good (goal.at.returns c).Else-shape_bad, sym c.within.ensures, c.if-not-within.false)
