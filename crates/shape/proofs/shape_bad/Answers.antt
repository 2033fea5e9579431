-- `shape::shape_bad` meets its contract: the three ranges in turn. Assumes nothing.
use mathlib.Core.Path.{◌≡◌, sym, ◌∙◌}
use mathlib.Core.Bool.{true}
use native.Mathlib.Omega.{arith}
use Rattle.shape.specs.Shape.{most_nodes, within, shape_good}
use Rattle.shape.specs.Refusals.{shape_bad}
use Rattle.shape.proofs.Accepted.{within_true}
use Rattle.shape.proofs.shape_bad.Goals as goal
use Rattle.shape.proofs.shape_bad.Goals.{Else-not-within}

pub returns-then-not-within : goal.returns-then-not-within
unfolding shape_bad shape_good
returns-then-not-within c = simp (sym c.within.ensures, c.if-not-within.true)

-- n is in its range where the first test is passed
ranged : (c : Else-not-within) → within 3 most_nodes c.args.s.n ≡ true
ranged c = sym c.within.ensures ∙ c.if-not-within.false

pub overflow_sub-n : goal.overflow_sub-n
overflow_sub-n c = omega (arith, within_true 3 most_nodes _ (ranged c))

pub returns : goal.returns
unfolding shape_bad shape_good
returns c = simp (ranged (goal.at.returns c).Else-not-within, sym c.within-2.ensures, sym c.within-3.ensures)
