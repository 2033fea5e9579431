-- `repair::first_step` meets its contract: turned back, or the pairs and sums of the new node's rank. Assumes nothing.
use mathlib.Core.Path.{◌≡◌, sym, ap, ap₂, ◌∙◌}
use lib.ListN.{length}
use Rattle.shape.specs.Refusals.{answer_number}
use Rattle.shape.proofs.Answers.{afterwards_done, handed_on}
use Rattle.code.specs.Code.{narrow}
use Rattle.classes.specs.Steps.{own_pairs, exchanges}
use Rattle.judging.specs.Refusals.{first_step_refusal}
use Rattle.judging.proofs.Judged.{turned_back, lists_ready, FirstPassed, first_passed}
use Rattle.repair.proofs.Helping.{first_helped}
use Rattle.repair.proofs.first_step.Goals as goal
use Rattle.repair.proofs.first_step.Goals.{In_ok-judge_first}

pub returns-in_err-judge_first : goal.returns-in_err-judge_first
returns-in_err-judge_first c =
    let e = c.judge_first.ensures in
    let t = c.in_err-judge_first.was in
    rw (handed_on _ c.from_residual.ensures.1) (record { number = ap answer_number (sym t) ∙ e; own = turned_back _ _ _ _ _ t e; sent = turned_back _ _ _ _ _ t e })

none : (c : In_ok-judge_first) →
    let a = c.args in
    first_step_refusal narrow a.s a.dead.now a.helpers.now a.new a.messages.now (length a.pairs.now) (length a.sums.now) ≡ 0
none c = sym c.judge_first.ensures ∙ ap answer_number c.in_ok-judge_first.was

known : (c : In_ok-judge_first) →
    let a = c.args in
    FirstPassed a.s a.dead.now a.helpers.now a.new a.messages.now (length a.pairs.now) (length a.sums.now)
known c = first_passed _ _ _ _ _ _ _ (none c)

pub laid_out-g-requires : goal.laid_out-g-requires
laid_out-g-requires c = lists_ready _ _ _ _ (known c).listed

pub rank_of-u-requires : goal.rank_of-u-requires
rank_of-u-requires c = (c.laid_out-g.ensures.1, (known (goal.at.rank_of-u-requires c).In_ok-judge_first).new_dead)

pub first_into-requires : goal.first_into-requires
first_into-requires c =
    let k = known (goal.at.first_into-requires c).In_ok-judge_first in
    let g = c.laid_out-g.ensures in
    record { ready = (g.1, rw g.0 (first_helped _ _ _ _ _ _ _ _ k c.rank_of-u.ensures.0)); pairs_len = (rw g.0 k.pairs_due, rw g.0 k.sums_due) }

pub returns : goal.returns
returns c =
    let e = none (goal.at.returns c).In_ok-judge_first in
    let a = c.args in
    let d = c.first_into.ensures in
    let g = c.laid_out-g.ensures.0 in
    let r = c.rank_of-u.ensures.1 in
    record {
      number = sym e;
      own = d.own ∙ ap₂ (λ s u. own_pairs narrow s a.dead.now a.helpers.now u a.messages.now) g r ∙ sym (afterwards_done _ _ _ e);
      sent = d.sent ∙ ap₂ (λ s u. exchanges narrow s a.dead.now a.helpers.now u a.messages.now) g r ∙ sym (afterwards_done _ _ _ e);
    }
