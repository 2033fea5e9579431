-- `checking::check` meets its contract: turned back by the judging, or answered by the look. Assumes nothing.
use mathlib.Core.Path.{◌≡◌, sym, ap, ◌∙◌}
use Rattle.shape.specs.Refusals.{answer_number}
use Rattle.shape.proofs.Answers.{handed_on}
use Rattle.code.specs.Code.{narrow}
use Rattle.code.specs.Refusals.{check_refusal}
use Rattle.checking.proofs.Promised.{checks_looked, checks_refused}
use Rattle.checking.proofs.check.Goals as goal
use Rattle.checking.proofs.check.Goals.{In_ok-judge_check}

-- the judging found no cause
accepted : (c : In_ok-judge_check) → let a = c.args in check_refusal narrow a.s a.nodes.now ≡ 0
accepted c = sym c.judge_check.ensures ∙ ap answer_number c.in_ok-judge_check.was

pub look-requires : goal.look-requires
look-requires c = accepted c

pub returns-in_err-judge_check : goal.returns-in_err-judge_check
returns-in_err-judge_check c =
    rw (handed_on _ c.from_residual.ensures.1) (checks_refused _ _ _ (ap answer_number (sym c.in_err-judge_check.was) ∙ c.judge_check.ensures))

pub returns : goal.returns
returns c = checks_looked _ _ (accepted (goal.at.returns c).In_ok-judge_check) _ c.look.ensures
