-- `checking::judge_check` meets its contract: the causes in turn. Assumes nothing.
use mathlib.Core.Path.{◌≡◌, sym, ◌∙◌}
use mathlib.Core.Bool.{false}
use native.Mathlib.Omega.{arith}
use native.Mathlib.Nat.{mul-le-mul}
use borrow.Author.Tests.{eq-eqb, ne_eqb}
use Rattle.shape.specs.Refusals.{shape_bad, wrong_length}
use Rattle.shape.proofs.Accepted.{shape_accepted}
use Rattle.code.specs.Refusals.{check_refusal}
use Rattle.checking.proofs.judge_check.Goals as goal
use Rattle.checking.proofs.judge_check.Goals.{Else-shape_bad}

pub returns-then-shape_bad : goal.returns-then-shape_bad
unfolding check_refusal
returns-then-shape_bad c = simp (sym c.shape_bad.ensures, c.if-shape_bad.true)

good : (c : Else-shape_bad) → shape_bad c.args.s ≡ false
good c = sym c.shape_bad.ensures ∙ c.if-shape_bad.false

pub size-requires : goal.size-requires
size-requires c = good c

pub overflow_mul-n : goal.overflow_mul-n
overflow_mul-n c =
    let shaped = shape_accepted _ (good (goal.at.overflow_mul-n c).Else-shape_bad) in
    rw c.size.ensures (omega (arith, mul-le-mul shaped.n_high shaped.size_high))

pub returns-then-nodes-n : goal.returns-then-nodes-n
unfolding check_refusal wrong_length
returns-then-nodes-n c = simp (good (goal.at.returns-then-nodes-n c).Else-shape_bad, sym c.size.ensures, ne_eqb _ _ c.if-nodes-n.true)

pub returns-then-symbol_bad : goal.returns-then-symbol_bad
unfolding check_refusal wrong_length
returns-then-symbol_bad c =
    simp (good (goal.at.returns-then-symbol_bad c).Else-shape_bad, sym c.size.ensures, eq-eqb _ _ c.if-nodes-n.false, sym c.symbol_bad.ensures, c.if-symbol_bad.true)

pub returns : goal.returns
unfolding check_refusal wrong_length
returns c =
    simp (good (goal.at.returns c).Else-shape_bad, sym c.size.ensures, eq-eqb _ _ c.if-nodes-n.false, sym c.symbol_bad.ensures, c.if-symbol_bad.false)
