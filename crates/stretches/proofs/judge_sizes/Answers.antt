-- `stretches::judge_sizes` meets its contract. Assumes nothing.
use mathlib.Core.Bool.{not, ◌||◌}
use Prim.Native.Nat.{◌*◌}
use lib.Dec.{eqb, ltb}
use mathlib.Core.Path.{◌≡◌, sym, ◌∙◌}
use mathlib.Core.Bool.{false}
use native.Mathlib.Omega.{arith}
use native.Mathlib.Nat.{mul-le-mul}
use Rattle.shape.specs.Refusals.{shape_bad, wrong_length}
use Rattle.shape.proofs.Accepted.{shape_accepted}
use Rattle.lists.proofs.Tests.{neither}
use Rattle.stretches.specs.Refusals.{stretches_size_refusal}
use Rattle.stretches.proofs.Judging.{stretches_accepted}
use Rattle.stretches.proofs.judge_sizes.Goals as goal
use Rattle.stretches.proofs.judge_sizes.Goals.{Else-shape_bad}

pub returns-then-shape_bad : goal.returns-then-shape_bad
unfolding stretches_size_refusal
returns-then-shape_bad c = simp (sym c.shape_bad.ensures, c.if-shape_bad.true)

good : (c : Else-shape_bad) → shape_bad c.args.s ≡ false
good c = sym c.shape_bad.ensures ∙ c.if-shape_bad.false

pub returns-then-nodes_bad : goal.returns-then-nodes_bad
unfolding stretches_size_refusal
returns-then-nodes_bad c = simp (good (goal.at.returns-then-nodes_bad c).Else-shape_bad, sym c.nodes_bad.ensures, c.if-nodes_bad.true)

pub size-each-requires : goal.size-each-requires
size-each-requires c = good (goal.at.size-each-requires c).Else-shape_bad

pub overflow_mul-due : goal.overflow_mul-due
overflow_mul-due c =
    let shaped = shape_accepted _ (good (goal.at.overflow_mul-due c).Else-shape_bad) in
    rw c.size-each.ensures (omega (arith, mul-le-mul shaped.k_high shaped.size_high))

pub returns-then-held-due : goal.returns-then-held-due
unfolding stretches_size_refusal wrong_length
returns-then-held-due c =
    simp (good (goal.at.returns-then-held-due c).Else-shape_bad, sym c.nodes_bad.ensures, c.if-nodes_bad.false, sym c.size-each.ensures, sym c.stretches_bad.ensures, c.if-held-due.true)

pub past_end-requires : goal.past_end-requires
past_end-requires c =
    let a = c.args in
    let due = a.s.k * c.size-each.result in
    let d = (neither (not (eqb a.held due) || ltb due a.len || c.stretches_bad.result) _ c.if-held-due.false).0 in
    let e = (neither (not (eqb a.held due) || ltb due a.len) c.stretches_bad.result d).1 in
    (stretches_accepted _ _ (sym c.stretches_bad.ensures ∙ e)).0

pub returns-then-past_end : goal.returns-then-past_end
unfolding stretches_size_refusal wrong_length
returns-then-past_end c = simp (good (goal.at.returns-then-past_end c).Else-shape_bad, sym c.nodes_bad.ensures, c.if-nodes_bad.false, sym c.size-each.ensures, sym c.stretches_bad.ensures, c.if-held-due.false, sym c.past_end.ensures, c.if-past_end.true)

pub returns : goal.returns
unfolding stretches_size_refusal wrong_length
returns c = simp (good (goal.at.returns c).Else-shape_bad, sym c.nodes_bad.ensures, c.if-nodes_bad.false, sym c.size-each.ensures, sym c.stretches_bad.ensures, c.if-held-due.false, sym c.past_end.ensures, c.if-past_end.false)
