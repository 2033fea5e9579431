-- `finishing::finish` meets its contract: turned back, or the kept sums of the new node's rank are finished. Assumes nothing.
use mathlib.Core.Path.{◌≡◌, sym, ap, ap₂, ◌∙◌}
use lib.ListN.{length}
use Rattle.shape.specs.Refusals.{answer_number}
use Rattle.shape.proofs.Accepted.{repair_accepted}
use Rattle.code.specs.Code.{narrow}
use Rattle.judging.proofs.Judged.{inside, lists_ready}
use Rattle.arrival.specs.Sums.{finished_pairs, finished_exchanges}
use Rattle.arrival.specs.Record.{finish_refusal}
use Rattle.arrival.proofs.Judged.{FinishPassed, finish_passed}
use Rattle.arrival.proofs.Promised.{finishes_refused, finishes_done}
use Rattle.shape.proofs.Answers.{handed_on}
use Rattle.finishing.proofs.finish.Goals as goal
use Rattle.finishing.proofs.finish.Goals.{In_ok-judge_finish}

pub returns-in_err-judge_finish : goal.returns-in_err-judge_finish
returns-in_err-judge_finish c =
    let t = c.in_err-judge_finish.was in
    rw (handed_on _ c.from_residual.ensures.1) (finishes_refused _ _ _ _ _ _ _ _ _ (ap answer_number (sym t) ∙ c.judge_finish.ensures))

none : (c : In_ok-judge_finish) →
    let a = c.args in
    finish_refusal narrow a.s a.dead.now a.helpers.now a.new a.sums.now a.heard.now (length a.pairs.now) (length a.out.now) ≡ 0
none c = sym c.judge_finish.ensures ∙ ap answer_number c.in_ok-judge_finish.was

known : (c : In_ok-judge_finish) →
    let a = c.args in
    FinishPassed a.s a.dead.now a.helpers.now a.new a.sums.now a.heard.now (length a.pairs.now) (length a.out.now)
known c = finish_passed _ _ _ _ _ _ _ _ (none c)

pub laid_out-g-requires : goal.laid_out-g-requires
laid_out-g-requires c = lists_ready _ _ _ _ (known c).listed

pub rank_of-u-requires : goal.rank_of-u-requires
rank_of-u-requires c = (c.laid_out-g.ensures.1, inside _ _ (known (goal.at.rank_of-u-requires c).In_ok-judge_finish).listed.named)

pub finish_into-requires : goal.finish_into-requires
finish_into-requires c =
    let k = known (goal.at.finish_into-requires c).In_ok-judge_finish in
    let g = c.laid_out-g.ensures in
    let r = repair_accepted _ _ _ k.listed.lists in
    record {
      ready = g.1;
      rank = c.rank_of-u.ensures.0;
      rises = rw g.0 r.helpers_rising;
      count = rw g.0 r.helpers_count;
      apart = r.apart;
      sums_long = rw g.0 k.sums_long;
      pairs_long = rw g.0 k.pairs_due;
      out_long = rw g.0 k.out_due;
    }

pub returns : goal.returns
returns c =
    let a = c.args in
    let g = c.laid_out-g.ensures.0 in
    let r = c.rank_of-u.ensures.1 in
    let d = c.finish_into.ensures in
    finishes_done _ _ _ _ _ _ _ _ _ _ (none (goal.at.returns c).In_ok-judge_finish)
    (d.own ∙ ap₂ (λ s u. finished_pairs narrow s a.dead.now a.helpers.now u a.sums.now) g r)
    (d.sent ∙ ap₂ (λ s u. finished_exchanges narrow s a.dead.now a.helpers.now u a.sums.now) g r)
