-- `arrival::judge_hear` meets its contract: causes 1 to 3 with the record, the lengths, then the symbols. Assumes nothing.
use mathlib.Core.Path.{◌≡◌, sym, ap, ap₂, ◌∙◌}
use mathlib.Core.Bool.{not, ◌||◌}
use Prim.Native.Nat.{◌+◌, ◌-◌, ◌≤◌, ◌*◌}
use native.Mathlib.Omega.{arith}
use Rattle.lists.specs.Lists.{outside}
use Rattle.shape.specs.Refusals.{answer_number, wrong_length}
use Rattle.shape.specs.Shape.{most_nodes}
use Rattle.classes.specs.Classes.{message_size}
use Rattle.judging.specs.Refusals.{lists_refusal}
use Rattle.judging.proofs.Judged.{Listed, small, share_fits, judged_stop, judged_listed, judged_length, judged_symbols, judged_done}
use Rattle.arrival.specs.Sums.{kept_size}
use Rattle.arrival.specs.Record.{caller_bad, hear_refusal}
use Rattle.arrival.proofs.Records.{lists_by}
use Rattle.shape.proofs.Answers.{handed_on}
use Rattle.arrival.proofs.judge_hear.Goals as goal
use Rattle.arrival.proofs.judge_hear.Goals.{After-judge_lists, In_ok-judge_lists}

told : (j : After-judge_lists) →
    let a = j.args in
    answer_number j.judge_lists.result
    ≡ lists_refusal a.s a.dead.now a.helpers.now (outside a.dead.now a.new || caller_bad (a.s.k + 1) a.helpers.now a.heard.now a.helper) 0
unfolding outside
told j =
    let a = j.args in
    j.judge_lists.ensures
    ∙ ap (λ x. lists_refusal a.s a.dead.now a.helpers.now (not x || j.caller_bad.result) 0) j.listed.ensures
    ∙ lists_by a.s a.dead.now a.helpers.now (outside a.dead.now a.new) j.caller_bad.result
    (caller_bad (a.s.k + 1) a.helpers.now a.heard.now a.helper) 0 (j.caller_bad.ensures (a.s.k + 1))

pub returns-in_err-judge_lists : goal.returns-in_err-judge_lists
unfolding hear_refusal
returns-in_err-judge_lists c = rw (handed_on _ c.from_residual.ensures.1) (judged_stop _ _ _ _ _ (told (goal.at.returns-in_err-judge_lists c).After-judge_lists) _ c.in_err-judge_lists.was _)

known : (c : In_ok-judge_lists) →
    let a = c.args in
    Listed a.s a.dead.now a.helpers.now (outside a.dead.now a.new || caller_bad (a.s.k + 1) a.helpers.now a.heard.now a.helper)
known c = judged_listed _ _ _ _ _ (told (goal.at.In_ok-judge_lists c).After-judge_lists) c.in_ok-judge_lists.was

pub size-requires : goal.size-requires
size-requires c = (known c).shaped

pub overflow_sub-n : goal.overflow_sub-n
overflow_sub-n c = let m = small _ _ _ _ (known (goal.at.overflow_sub-n c).In_ok-judge_lists) in omega (arith, m.few)

pub overflow_mul-n : goal.overflow_mul-n
overflow_mul-n c =
    let k = known (goal.at.overflow_mul-n c).In_ok-judge_lists in
    let m = small _ _ _ _ k in
    let s = c.args.s in
    let h : s.n - s.k ≤ most_nodes * most_nodes = omega (arith, m.n_high) in
    omega (arith, share_fits _ _ _ _ k _ _ h c.size.ensures)

pub overflow_add-k : goal.overflow_add-k
overflow_add-k c = let m = small _ _ _ _ (known (goal.at.overflow_add-k c).In_ok-judge_lists) in omega (arith, m.few, m.n_high)

pub returns-then-message-share : goal.returns-then-message-share
unfolding hear_refusal wrong_length message_size kept_size
returns-then-message-share c =
    judged_length _ _ _ _ _ (told (goal.at.returns-then-message-share c).After-judge_lists) c.in_ok-judge_lists.was _ _ (rw c.size.ensures at c.if-message-share.true)

pub returns-then-symbol_bad : goal.returns-then-symbol_bad
unfolding hear_refusal wrong_length message_size kept_size
returns-then-symbol_bad c =
    judged_symbols _ _ _ _ _ (told (goal.at.returns-then-symbol_bad c).After-judge_lists) c.in_ok-judge_lists.was _ _ (rw c.size.ensures at c.if-message-share.false)
    (sym (ap₂ ◌||◌ c.symbol_bad.ensures c.symbol_bad-2.ensures) ∙ c.if-symbol_bad.true)

pub returns : goal.returns
unfolding hear_refusal wrong_length message_size kept_size
returns c =
    judged_done _ _ _ _ _ (told (goal.at.returns c).After-judge_lists) c.in_ok-judge_lists.was _ _ (rw c.size.ensures at c.if-message-share.false)
    (sym (ap₂ ◌||◌ c.symbol_bad.ensures c.symbol_bad-2.ensures) ∙ c.if-symbol_bad.false)
