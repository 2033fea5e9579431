-- `opening::open` meets its contract. Assumes nothing.
use mathlib.Core.Path.{◌≡◌, sym, ap, ◌∙◌}
use native.Mathlib.Omega.{arith}
use lib.ListN.{length}
use Rattle.shape.proofs.Answers.{number_positive, handed_on}
use Rattle.shape.specs.Refusals.{answer_number}
use Rattle.code.proofs.Promised.{opens_refused}
use Rattle.code.proofs.Accepted.{open_accepted, open_turned}
use Rattle.code.specs.Refusals.{open_input_refusal, open_refusal}
use Rattle.code.specs.Code.{narrow}
use Rattle.opening.proofs.Judged.{opens_by}
use Rattle.opening.proofs.open.Goals as goal
use Rattle.opening.proofs.open.Goals.{In_ok-judge_open}

-- the judging found no cause
accepted : (c : In_ok-judge_open) →
    let a = c.args in
    open_input_refusal narrow a.s a.list.now a.symbols.now a.len (length a.transcript.now) 0 ≡ 0
accepted c = sym c.judge_open.ensures ∙ ap answer_number c.in_ok-judge_open.was

pub open_data-requires : goal.open_data-requires
open_data-requires c =
    let w = open_accepted _ _ _ _ _ (accepted (goal.at.open_data-requires c).In_ok-judge_open) in
    rw w.whole (rw w.whole at (accepted (goal.at.open_data-requires c).In_ok-judge_open))

pub returns-in_err-judge_open : goal.returns-in_err-judge_open
unfolding open_refusal
returns-in_err-judge_open c =
    let e = ap answer_number (sym c.in_err-judge_open.was) ∙ c.judge_open.ensures in
    rw (handed_on _ c.from_residual.ensures.1) (opens_refused _ _ _ _ _ _ (e ∙ sym (open_turned _ _ _ _ _ _ (λ z. omega (arith, number_positive c.in_err-judge_open.field-0.0)))))

pub shape_of-transcript : goal.shape_of-transcript
shape_of-transcript c = c.open_data.ensures.long

pub returns : goal.returns
returns c = opens_by _ _ _ _ _ _ _ (accepted (goal.at.returns c).In_ok-judge_open) c.open_data.ensures
