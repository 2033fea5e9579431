-- `ordering::all_sent` meets its contract: all helpers have sent where all that are left have. Assumes nothing.
use mathlib.Core.Path.{refl, sym, ◌∙◌}
use Prim.Native.Nat.{◌<◌}
use native.Mathlib.Omega.{arith}
use borrow.Author.Rules.{rules}
use lib.ListN.{get_or}
use Rattle.lists.proofs.Scans.{all_pass, all_fail, all_end}
use Rattle.shape.specs.Shape.{most_nodes}
use Rattle.ordering.specs.Following.{by_table, sent_to}
use Rattle.ordering.proofs.all_sent.Goals as goal
use Rattle.ordering.proofs.all_sent.Goals.{In-loop-helper}

-- a helper's number is small
low : (c : In-loop-helper) → get_or c.args.helpers.now c.loop-helper.helper-index 0 < most_nodes
low c = c.requires.0 _ c.loop-helper-test.true

pub overflow_mul-helper : goal.overflow_mul-helper
overflow_mul-helper c = omega (arith, low (goal.at.overflow_mul-helper c).In-loop-helper)

pub overflow_add-helper : goal.overflow_add-helper
overflow_add-helper c = omega (arith, low (goal.at.overflow_add-helper c).In-loop-helper)

pub bounds-sent-helper : goal.bounds-sent-helper
bounds-sent-helper c = omega (arith, low (goal.at.bounds-sent-helper c).In-loop-helper)

pub returns-then-not-sent-helper : goal.returns-then-not-sent-helper
unfolding sent_to by_table
returns-then-not-sent-helper c =
    sym (c.loop-helper.invariant.1 ∙ all_fail _ _ _ c.loop-helper-test.true c.if-not-sent-helper.true)

pub loop-helper-preserved : goal.loop-helper-preserved
unfolding sent_to by_table
loop-helper-preserved c =
    (search rules, c.loop-helper.invariant.1 ∙ all_pass _ _ _ c.loop-helper-test.true c.if-not-sent-helper.false)

pub returns : goal.returns
returns c = sym (c.loop-helper.invariant.1 ∙ all_end _ _ _ c.loop-helper-test.false)

pub loop-helper-init : goal.loop-helper-init
loop-helper-init c = (search rules, refl)
