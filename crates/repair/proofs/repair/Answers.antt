-- `repair::repair` meets its contract: turned back, or the work is done with a table, small or large. Assumes nothing.
use mathlib.Core.Path.{◌≡◌, sym, ap, ◌∙◌}
use lib.ListN.{length}
use Rattle.shape.specs.Refusals.{answer_number}
use Rattle.code.specs.Code.{narrow}
use Rattle.judging.specs.Refusals.{whole_refusal}
use Rattle.judging.proofs.Judged.{turned_back, turned_number, lists_ready, WholePassed, whole_passed}
use Rattle.repair.proofs.Promised.{repaired_promise}
use Rattle.shape.proofs.Answers.{handed_on}
use Rattle.repair.proofs.repair.Goals as goal
use Rattle.repair.proofs.repair.Goals.{In_ok-judge_whole}

pub returns-in_err-judge_whole : goal.returns-in_err-judge_whole
returns-in_err-judge_whole c =
    let e = c.judge_whole.ensures in
    let t = c.in_err-judge_whole.was in
    rw (handed_on _ c.from_residual.ensures.1) (record {
      number = ap answer_number (sym t) ∙ e;
      sent = turned_back _ _ _ _ _ t e;
      restored = turned_back _ _ _ _ _ t e;
      whole = λ z. absurd (turned_number _ _ _ t e z);
      alike = λ z. absurd (turned_number _ _ _ t e z);
    })

none : (c : In_ok-judge_whole) → let a = c.args in whole_refusal narrow a.s a.dead.now a.helpers.now a.nodes.now (length a.wire.now) ≡ 0
none c = sym c.judge_whole.ensures ∙ ap answer_number c.in_ok-judge_whole.was

known : (c : In_ok-judge_whole) → let a = c.args in WholePassed a.s a.dead.now a.helpers.now a.nodes.now (length a.wire.now)
known c = whole_passed _ _ _ _ _ (none c)

pub laid_out-g-requires : goal.laid_out-g-requires
laid_out-g-requires c = lists_ready _ _ _ _ (known c).listed

pub refill-requires : goal.refill-requires
refill-requires c = let g = c.laid_out-g.ensures in (rw g.0 (none (goal.at.refill-requires c).In_ok-judge_whole), g.1)

pub returns : goal.returns
returns c =
    let R = rw c.laid_out-g.ensures.0 at c.refill.ensures in
    repaired_promise _ _ _ _ _ _ _ (none (goal.at.returns c).In_ok-judge_whole) R.sent R.restored
