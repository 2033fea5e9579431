-- `ordering::may_run` meets its contract: causes 1 to 3, the odd count, then the list itself; the number gives the promise. Assumes nothing.
use mathlib.Core.Path.{◌≡◌, sym, ap, ◌∙◌}
use mathlib.Core.Bool.{not}
use borrow.Author.Rules.{rules}
use lib.ListN.{length}
use Prim.Native.Nat.{◌%◌}
use borrow.Author.Tests.{eq-eqb, ne_eqb}
use Rattle.shape.specs.Refusals.{refuse}
use Rattle.judging.proofs.Judged.{judged_stop, judged_listed, judged_then, judged_length, refuse_false}
use Rattle.ordering.specs.Ordering.{odd_count, pairs_refusal, order_refusal}
use Rattle.ordering.proofs.Promised.{orders}
use Rattle.shape.proofs.Answers.{handed_on}
use Rattle.ordering.proofs.may_run.Goals as goal
use Rattle.ordering.proofs.may_run.Goals.{After-runs-yes}

pub returns-in_err-judge_lists : goal.returns-in_err-judge_lists
unfolding order_refusal pairs_refusal
returns-in_err-judge_lists c = rw (handed_on _ c.from_residual.ensures.1) (orders _ _ _ _ _ (judged_stop _ _ _ _ _ c.judge_lists.ensures _ c.in_err-judge_lists.was _))

pub runs-yes-requires : goal.runs-yes-requires
runs-yes-requires c = let L = judged_listed _ _ _ _ _ c.judge_lists.ensures c.in_ok-judge_lists.was in record { shape = L.shaped; lists = L.lists }

pub returns-then-odd : goal.returns-then-odd
unfolding order_refusal pairs_refusal odd_count
returns-then-odd c =
    orders _ _ _ _ _ (judged_length _ _ _ _ _ c.judge_lists.ensures c.in_ok-judge_lists.was _ _ (ap not (ne_eqb _ _ c.if-odd.true)))

-- where the count is even, the list decides
decided : (c : After-runs-yes) →
    let a = c.args in
    length a.numbers.now % 2 ≡ 0 → order_refusal a.s a.dead.now a.helpers.now a.numbers.now ≡ refuse (not c.runs-yes.result) 13 0
unfolding order_refusal pairs_refusal odd_count
decided c even =
    judged_then _ _ _ _ _ c.judge_lists.ensures c.in_ok-judge_lists.was _ ∙ refuse_false _ 4 _ (ap not (eq-eqb _ _ even))
    ∙ ap (λ b. refuse (not b) 13 0) (sym c.runs-yes.ensures)

pub returns-then-not-yes : goal.returns-then-not-yes
returns-then-not-yes c =
    let even : length c.args.numbers.now % 2 ≡ 0 = search rules in
    orders _ _ _ _ _ (sym (decided (goal.at.returns-then-not-yes c).After-runs-yes even ∙ ap (λ b. refuse (not b) 13 0) c.if-not-yes.true))

pub returns : goal.returns
returns c = orders _ _ _ _ _ (sym (decided (goal.at.returns c).After-runs-yes c.if-odd.false ∙ ap (λ b. refuse (not b) 13 0) c.if-not-yes.false))
