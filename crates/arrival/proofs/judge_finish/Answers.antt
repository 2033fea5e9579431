-- `arrival::judge_finish` meets its contract: causes 1 to 3 with the record, the lengths and the count, then the symbols. Assumes nothing.
use mathlib.Core.Path.{◌≡◌, sym, ap, ◌∙◌}
use mathlib.Core.Bool.{not, ◌||◌}
use Prim.Native.Nat.{◌+◌, ◌-◌, ◌≤◌, ◌*◌}
use native.Mathlib.Omega.{arith}
use lib.ListN.{length}
use Rattle.lists.specs.Lists.{outside}
use Rattle.shape.specs.Refusals.{answer_number, wrong_length}
use Rattle.shape.specs.Shape.{most_nodes}
use Rattle.classes.specs.Classes.{message_size}
use Rattle.judging.specs.Refusals.{lists_refusal}
use Rattle.judging.proofs.Judged.{Listed, small, share_fits, judged_stop, judged_listed, judged_length, judged_symbols, judged_done}
use Rattle.arrival.specs.Sums.{kept_size}
use Rattle.arrival.specs.Record.{record_bad, finish_refusal}
use Rattle.arrival.proofs.Records.{lists_by}
use Rattle.shape.proofs.Answers.{handed_on}
use Rattle.arrival.proofs.judge_finish.Goals as goal
use Rattle.arrival.proofs.judge_finish.Goals.{After-judge_lists, In_ok-judge_lists}

told : (j : After-judge_lists) →
    let a = j.args in
    answer_number j.judge_lists.result
    ≡ lists_refusal a.s a.dead.now a.helpers.now (outside a.dead.now a.new || record_bad (a.s.k + 1) a.helpers.now a.heard.now) 0
unfolding outside
told j =
    let a = j.args in
    j.judge_lists.ensures
    ∙ ap (λ x. lists_refusal a.s a.dead.now a.helpers.now (not x || j.record_bad.result) 0) j.listed.ensures
    ∙ lists_by a.s a.dead.now a.helpers.now (outside a.dead.now a.new) j.record_bad.result
    (record_bad (a.s.k + 1) a.helpers.now a.heard.now) 0 (j.record_bad.ensures (a.s.k + 1))

pub returns-in_err-judge_lists : goal.returns-in_err-judge_lists
unfolding finish_refusal
returns-in_err-judge_lists c = rw (handed_on _ c.from_residual.ensures.1) (judged_stop _ _ _ _ _ (told (goal.at.returns-in_err-judge_lists c).After-judge_lists) _ c.in_err-judge_lists.was _)

known : (c : In_ok-judge_lists) →
    let a = c.args in
    Listed a.s a.dead.now a.helpers.now (outside a.dead.now a.new || record_bad (a.s.k + 1) a.helpers.now a.heard.now)
known c = judged_listed _ _ _ _ _ (told (goal.at.In_ok-judge_lists c).After-judge_lists) c.in_ok-judge_lists.was

pub size-requires : goal.size-requires
size-requires c = (known c).shaped

pub overflow_sub-kept : goal.overflow_sub-kept
overflow_sub-kept c = let m = small _ _ _ _ (known (goal.at.overflow_sub-kept c).In_ok-judge_lists) in omega (arith, m.few)

pub overflow_mul-kept : goal.overflow_mul-kept
overflow_mul-kept c =
    let k = known (goal.at.overflow_mul-kept c).In_ok-judge_lists in
    let m = small _ _ _ _ k in
    let s = c.args.s in
    let h : s.n - s.k ≤ most_nodes * most_nodes = omega (arith, m.n_high) in
    omega (arith, share_fits _ _ _ _ k _ _ h c.size.ensures)

pub overflow_add-kept : goal.overflow_add-kept
overflow_add-kept c = let m = small _ _ _ _ (known (goal.at.overflow_add-kept c).In_ok-judge_lists) in omega (arith, m.few, m.n_high)

pub overflow_mul-wrong : goal.overflow_mul-wrong
overflow_mul-wrong c = omega (arith, share_fits _ _ _ _ (known (goal.at.overflow_mul-wrong c).In_ok-judge_lists) 2 _ (omega arith) c.size.ensures)

pub overflow_sub-wrong : goal.overflow_sub-wrong
overflow_sub-wrong c = (small _ _ _ _ (known (goal.at.overflow_sub-wrong c).In_ok-judge_lists)).some

pub overflow_mul-wrong-2 : goal.overflow_mul-wrong-2
overflow_mul-wrong-2 c =
    let k = known (goal.at.overflow_mul-wrong-2 c).In_ok-judge_lists in
    let m = small _ _ _ _ k in
    let h : length c.args.dead.now - 1 ≤ most_nodes * most_nodes = omega (arith, m.few, m.n_high) in
    omega (arith, share_fits _ _ _ _ k _ _ h c.size.ensures)

pub overflow_add-k : goal.overflow_add-k
overflow_add-k c = let m = small _ _ _ _ (known (goal.at.overflow_add-k c).In_ok-judge_lists) in omega (arith, m.few, m.n_high)

pub returns-then-wrong-heard_count : goal.returns-then-wrong-heard_count
unfolding finish_refusal wrong_length message_size kept_size
returns-then-wrong-heard_count c =
    judged_length _ _ _ _ _ (told (goal.at.returns-then-wrong-heard_count c).After-judge_lists) c.in_ok-judge_lists.was _ _ (rw (c.size.ensures, c.heard_count.ensures) at c.if-wrong-heard_count.true)

pub returns-then-symbol_bad : goal.returns-then-symbol_bad
unfolding finish_refusal wrong_length message_size kept_size
returns-then-symbol_bad c =
    judged_symbols _ _ _ _ _ (told (goal.at.returns-then-symbol_bad c).After-judge_lists) c.in_ok-judge_lists.was _ _ (rw (c.size.ensures, c.heard_count.ensures) at c.if-wrong-heard_count.false)
    (sym c.symbol_bad.ensures ∙ c.if-symbol_bad.true)

pub returns : goal.returns
unfolding finish_refusal wrong_length message_size kept_size
returns c =
    judged_done _ _ _ _ _ (told (goal.at.returns c).After-judge_lists) c.in_ok-judge_lists.was _ _ (rw (c.size.ensures, c.heard_count.ensures) at c.if-wrong-heard_count.false)
    (sym c.symbol_bad.ensures ∙ c.if-symbol_bad.false)
