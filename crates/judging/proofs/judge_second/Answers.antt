-- `judging::judge_second` meets its contract: causes 1 to 3, the lengths, then the symbols. Assumes nothing.
use mathlib.Core.Path.{sym, ap₂, ◌∙◌}
use mathlib.Core.Bool.{not, ◌||◌}
use Prim.Native.Nat.{◌-◌, ◌≤◌, ◌*◌}
use native.Mathlib.Omega.{arith}
use lib.ListN.{length}
use Rattle.lists.specs.Lists.{outside}
use Rattle.shape.specs.Refusals.{wrong_length}
use Rattle.shape.specs.Shape.{most_nodes}
use Rattle.classes.specs.Classes.{message_size}
use Rattle.shape.proofs.Answers.{handed_on}
use Rattle.judging.specs.Refusals.{second_step_refusal}
use Rattle.judging.proofs.Judged.{Listed, small, share_fits, judged_stop, judged_listed, judged_length, judged_symbols, judged_done}
use Rattle.judging.proofs.judge_second.Goals as goal
use Rattle.judging.proofs.judge_second.Goals.{In_ok-judge_lists}

pub returns-in_err-judge_lists : goal.returns-in_err-judge_lists
unfolding second_step_refusal outside
returns-in_err-judge_lists c =
    rw (handed_on _ c.from_residual.ensures.1, ← c.listed.ensures) (judged_stop _ _ _ _ _ c.judge_lists.ensures _ c.in_err-judge_lists.was _)

known : (c : In_ok-judge_lists) → let a = c.args in Listed a.s a.dead.now a.helpers.now (not c.listed.result)
known c = judged_listed _ _ _ _ _ c.judge_lists.ensures c.in_ok-judge_lists.was

pub size-full-requires : goal.size-full-requires
size-full-requires c = (known c).shaped

pub overflow_mul-share : goal.overflow_mul-share
overflow_mul-share c = omega (arith, share_fits _ _ _ _ (known (goal.at.overflow_mul-share c).In_ok-judge_lists) 2 _ (omega arith) c.size-full.ensures)

pub overflow_sub-h : goal.overflow_sub-h
overflow_sub-h c = (small _ _ _ _ (known (goal.at.overflow_sub-h c).In_ok-judge_lists)).some

pub overflow_mul-h : goal.overflow_mul-h
overflow_mul-h c =
    let k = known (goal.at.overflow_mul-h c).In_ok-judge_lists in
    let m = small _ _ _ _ k in
    let h : length c.args.dead.now - 1 ≤ most_nodes * most_nodes = omega (arith, m.few, m.n_high) in
    omega (arith, share_fits _ _ _ _ k _ _ h c.size-full.ensures)

pub returns-then-pairs-share : goal.returns-then-pairs-share
unfolding second_step_refusal outside wrong_length message_size
returns-then-pairs-share c =
    rw (← c.listed.ensures)
    (judged_length _ _ _ _ _ c.judge_lists.ensures c.in_ok-judge_lists.was _ _ (rw c.size-full.ensures at c.if-pairs-share.true))

pub returns-then-symbol_bad : goal.returns-then-symbol_bad
unfolding second_step_refusal outside wrong_length message_size
returns-then-symbol_bad c =
    rw (← c.listed.ensures)
    (judged_symbols _ _ _ _ _ c.judge_lists.ensures c.in_ok-judge_lists.was _ _ (rw c.size-full.ensures at c.if-pairs-share.false)
    (sym (ap₂ ◌||◌ c.symbol_bad.ensures c.symbol_bad-2.ensures) ∙ c.if-symbol_bad.true))

pub returns : goal.returns
unfolding second_step_refusal outside wrong_length message_size
returns c =
    rw (← c.listed.ensures)
    (judged_done _ _ _ _ _ c.judge_lists.ensures c.in_ok-judge_lists.was _ _ (rw c.size-full.ensures at c.if-pairs-share.false)
    (sym (ap₂ ◌||◌ c.symbol_bad.ensures c.symbol_bad-2.ensures) ∙ c.if-symbol_bad.false))
