-- `code::judge_restore` meets its contract: the causes in turn. Assumes nothing.
use mathlib.Core.Path.{◌≡◌, sym, ◌∙◌}
use mathlib.Core.Bool.{false}
use native.Mathlib.Omega.{arith}
use native.Mathlib.Nat.{mul-le-mul}
use Rattle.shape.specs.Refusals.{shape_bad, wrong_length}
use Rattle.shape.proofs.Accepted.{shape_accepted}
use Rattle.code.specs.Refusals.{restore_refusal}
use Rattle.restoring.proofs.judge_restore.Goals as goal
use Rattle.restoring.proofs.judge_restore.Goals.{Else-shape_bad}

pub returns-then-shape_bad : goal.returns-then-shape_bad
unfolding restore_refusal
returns-then-shape_bad c = simp (sym c.shape_bad.ensures, c.if-shape_bad.true)

good : (c : Else-shape_bad) → shape_bad c.args.s ≡ false
good c = sym c.shape_bad.ensures ∙ c.if-shape_bad.false

pub size-places-requires : goal.size-places-requires
size-places-requires c = good (goal.at.size-places-requires c).Else-shape_bad

pub overflow_mul-misfit : goal.overflow_mul-misfit
overflow_mul-misfit c =
    let shaped = shape_accepted _ (good (goal.at.overflow_mul-misfit c).Else-shape_bad) in
    rw c.size-places.ensures (omega (arith, mul-le-mul shaped.k_high shaped.size_high))

pub overflow_mul-misfit-2 : goal.overflow_mul-misfit-2
overflow_mul-misfit-2 c =
    let shaped = shape_accepted _ (good (goal.at.overflow_mul-misfit-2 c).Else-shape_bad) in
    rw c.size-places.ensures (omega (arith, mul-le-mul shaped.n_high shaped.size_high))

pub returns-then-unlisted : goal.returns-then-unlisted
unfolding restore_refusal
returns-then-unlisted c = simp (good (goal.at.returns-then-unlisted c).Else-shape_bad, sym c.nodes_bad-unlisted.ensures, c.if-unlisted.true)

pub returns-then-misfit : goal.returns-then-misfit
unfolding restore_refusal wrong_length
returns-then-misfit c =
    simp (good (goal.at.returns-then-misfit c).Else-shape_bad, sym c.nodes_bad-unlisted.ensures, c.if-unlisted.false, sym c.size-places.ensures, c.if-misfit.true)

pub returns-then-symbol_bad : goal.returns-then-symbol_bad
unfolding restore_refusal wrong_length
returns-then-symbol_bad c =
    simp
    (good (goal.at.returns-then-symbol_bad c).Else-shape_bad, sym c.nodes_bad-unlisted.ensures, c.if-unlisted.false, sym c.size-places.ensures, c.if-misfit.false, sym c.symbol_bad.ensures, c.if-symbol_bad.true)

pub returns : goal.returns
unfolding restore_refusal wrong_length
returns c =
    simp
    (good (goal.at.returns c).Else-shape_bad, sym c.nodes_bad-unlisted.ensures, c.if-unlisted.false, sym c.size-places.ensures, c.if-misfit.false, sym c.symbol_bad.ensures, c.if-symbol_bad.false)
