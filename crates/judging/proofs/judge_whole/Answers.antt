-- `judging::judge_whole` meets its contract: causes 1 to 3, the lengths, then the helpers' symbols. Assumes nothing.
use mathlib.Core.Path.{sym, ◌∙◌}
use mathlib.Core.Bool.{false}
use Prim.Native.Nat.{◌+◌, ◌-◌, ◌*◌, ◌≤◌}
use native.Mathlib.Nat.{mul-le-mul}
use native.Mathlib.Omega.{arith}
use lib.ListN.{length}
use Rattle.shape.specs.Refusals.{wrong_length}
use Rattle.classes.specs.Classes.{message_size}
use Rattle.shape.proofs.Answers.{handed_on}
use Rattle.lists.proofs.Tests.{neither}
use Rattle.shape.specs.Shape.{most_nodes}
use Rattle.shape.proofs.Accepted.{repair_accepted}
use Rattle.judging.specs.Refusals.{whole_refusal}
use Rattle.judging.proofs.Judged.{Listed, small, share_fits, right_length, judged_stop, judged_listed, judged_length, judged_symbols, judged_done}
use Rattle.judging.proofs.judge_whole.Goals as goal
use Rattle.judging.proofs.judge_whole.Goals.{In_ok-judge_lists}

pub returns-in_err-judge_lists : goal.returns-in_err-judge_lists
unfolding whole_refusal
returns-in_err-judge_lists c = rw (handed_on _ c.from_residual.ensures.1) (judged_stop _ _ _ _ _ c.judge_lists.ensures _ c.in_err-judge_lists.was _)

known : (c : In_ok-judge_lists) → let a = c.args in Listed a.s a.dead.now a.helpers.now false
known c = judged_listed _ _ _ _ _ c.judge_lists.ensures c.in_ok-judge_lists.was

pub size-full-requires : goal.size-full-requires
size-full-requires c = (known c).shaped

pub overflow_mul-n : goal.overflow_mul-n
overflow_mul-n c = let m = small _ _ _ _ (known (goal.at.overflow_mul-n c).In_ok-judge_lists) in rw c.size-full.ensures (omega (arith, mul-le-mul m.n_high m.full))

pub overflow_add-k : goal.overflow_add-k
overflow_add-k c = let m = small _ _ _ _ (known (goal.at.overflow_add-k c).In_ok-judge_lists) in omega (arith, m.few, m.n_high)

-- how many messages there are
few : (c : In_ok-judge_lists) → let a = c.args in length a.dead.now * (a.s.k + length a.dead.now) ≤ most_nodes * most_nodes
few c = let m = small _ _ _ _ (known c) in mul-le-mul {n₂ = most_nodes} {m₂ = most_nodes} (omega (arith, m.few, m.n_high)) (omega (arith, m.few, m.n_high))

pub overflow_mul-h : goal.overflow_mul-h
overflow_mul-h c = omega (arith, few (goal.at.overflow_mul-h c).In_ok-judge_lists)

pub overflow_mul-h-2 : goal.overflow_mul-h-2
overflow_mul-h-2 c = omega (arith, share_fits _ _ _ _ (known (goal.at.overflow_mul-h-2 c).In_ok-judge_lists) _ _ (few (goal.at.overflow_mul-h-2 c).In_ok-judge_lists) c.size-full.ensures)

pub returns-then-nodes-n : goal.returns-then-nodes-n
unfolding whole_refusal wrong_length message_size
returns-then-nodes-n c = judged_length _ _ _ _ _ c.judge_lists.ensures c.in_ok-judge_lists.was _ _ (rw c.size-full.ensures at c.if-nodes-n.true)

pub helpers_bad-requires : goal.helpers_bad-requires
unfolding wrong_length
helpers_bad-requires c =
    let k = known (goal.at.helpers_bad-requires c).In_ok-judge_lists in
    (k.shaped, (repair_accepted _ _ _ k.lists).helpers_rising, right_length _ _ (neither _ _ (rw c.size-full.ensures at c.if-nodes-n.false)).0)

pub returns-then-helpers_bad : goal.returns-then-helpers_bad
unfolding whole_refusal wrong_length message_size
returns-then-helpers_bad c =
    judged_symbols _ _ _ _ _ c.judge_lists.ensures c.in_ok-judge_lists.was _ _ (rw c.size-full.ensures at c.if-nodes-n.false) (sym c.helpers_bad.ensures ∙ c.if-helpers_bad.true)

pub returns : goal.returns
unfolding whole_refusal wrong_length message_size
returns c =
    judged_done _ _ _ _ _ c.judge_lists.ensures c.in_ok-judge_lists.was _ _ (rw c.size-full.ensures at c.if-nodes-n.false) (sym c.helpers_bad.ensures ∙ c.if-helpers_bad.false)
