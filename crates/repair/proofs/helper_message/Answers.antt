-- `repair::helper_message` meets its contract: turned back, or the message of the new node's rank. Assumes nothing.
use mathlib.Core.Path.{◌≡◌, sym, ap, ap₂, ◌∙◌}
use lib.ListN.{length}
use Rattle.shape.specs.Refusals.{answer_number}
use Rattle.shape.proofs.Answers.{afterwards_done, handed_on}
use Rattle.code.specs.Code.{narrow}
use Rattle.classes.specs.Steps.{helper_message}
use Rattle.judging.specs.Refusals.{message_refusal}
use Rattle.judging.proofs.Judged.{turned_back, lists_ready, MessagePassed, message_passed}
use Rattle.repair.proofs.helper_message.Goals as goal
use Rattle.repair.proofs.helper_message.Goals.{In_ok-judge_message}

pub returns-in_err-judge_message : goal.returns-in_err-judge_message
returns-in_err-judge_message c = rw (handed_on _ c.from_residual.ensures.1) (record { number = ap answer_number (sym c.in_err-judge_message.was) ∙ c.judge_message.ensures; message = turned_back _ _ _ _ _ c.in_err-judge_message.was c.judge_message.ensures })

none : (c : In_ok-judge_message) →
    let a = c.args in
    message_refusal narrow a.s a.dead.now a.helpers.now a.helper a.new a.symbols.now (length a.message.now) ≡ 0
none c = sym c.judge_message.ensures ∙ ap answer_number c.in_ok-judge_message.was

known : (c : In_ok-judge_message) →
    let a = c.args in
    MessagePassed a.s a.dead.now a.helpers.now a.helper a.new a.symbols.now (length a.message.now)
known c = message_passed _ _ _ _ _ _ _ (none c)

pub laid_out-g-requires : goal.laid_out-g-requires
laid_out-g-requires c = lists_ready _ _ _ _ (known c).listed

pub rank_of-requires : goal.rank_of-requires
rank_of-requires c = (c.laid_out-g.ensures.1, (known (goal.at.rank_of-requires c).In_ok-judge_message).new_dead)

pub message_to-requires : goal.message_to-requires
message_to-requires c =
    let k = known (goal.at.message_to-requires c).In_ok-judge_message in
    let g = c.laid_out-g.ensures in
    (g.1, c.rank_of.ensures.0, rw g.0 k.long, rw g.0 k.due)

pub returns : goal.returns
returns c =
    let e = none (goal.at.returns c).In_ok-judge_message in
    let a = c.args in
    record {
      number = sym e;
      message =
          c.message_to.ensures
          ∙ ap₂ (λ s u. helper_message narrow s a.dead.now u a.symbols.now) c.laid_out-g.ensures.0 c.rank_of.ensures.1
          ∙ sym (afterwards_done _ _ _ e);
    }
