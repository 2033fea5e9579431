-- `correcting::correct` meets its contract: turned back by the judging, or corrected. Assumes nothing.
use mathlib.Core.Path.{◌≡◌, sym, ap, ◌∙◌}
use lib.ListN.{length}
use mir.Facts.{to_z-of_z}
use Rattle.shape.specs.Refusals.{answer_number}
use Rattle.shape.proofs.Answers.{afterwards_done, afterwards_refused, handed_on}
use Rattle.code.specs.Code.{narrow}
use Rattle.correcting.specs.Correcting.{corrected, correct_refusal}
use Rattle.correcting.proofs.Corrected.{corrected_length}
use Rattle.correcting.proofs.Promised.{correct_accepted, corrects}
use Rattle.correcting.proofs.correct.Goals as goal
use Rattle.correcting.proofs.correct.Goals.{After-correct_all, After-judge_correct, In_ok-judge_correct}

-- what the judging says
judged : (c : After-judge_correct) →
    let a = c.args in
    answer_number c.judge_correct.result ≡ correct_refusal narrow a.s a.nodes.now a.length a.byte a.change
judged c =
    c.judge_correct.ensures ∙ ap (correct_refusal narrow c.args.s c.args.nodes.now c.args.length c.args.byte) (to_z-of_z c.ranges.change)

-- it found no cause
accepted : (c : In_ok-judge_correct) →
    let a = c.args in
    correct_refusal narrow a.s a.nodes.now a.length a.byte a.change ≡ 0
accepted c = sym (judged (goal.at.In_ok-judge_correct c).After-judge_correct) ∙ ap answer_number c.in_ok-judge_correct.was

pub correct_all-requires : goal.correct_all-requires
correct_all-requires c =
    rw (to_z-of_z c.ranges.change) (correct_accepted narrow _ _ _ _ _ (accepted (goal.at.correct_all-requires c).In_ok-judge_correct)).known

pub returns-in_err-judge_correct : goal.returns-in_err-judge_correct
returns-in_err-judge_correct c =
    let number = ap answer_number (sym c.in_err-judge_correct.was) ∙ judged (goal.at.returns-in_err-judge_correct c).After-judge_correct in
    rw (handed_on _ c.from_residual.ensures.1) (corrects _ _ _ _ _ _ _ number (sym (afterwards_refused _ _ _ _ number)))

left : (c : After-correct_all) →
    let a = c.args in
    c.correct_all.new.nodes ≡ corrected narrow a.s a.nodes.now a.byte a.change
left c =
    c.correct_all.ensures ∙ ap (corrected narrow c.args.s c.args.nodes.now c.args.byte) (to_z-of_z c.ranges.change)

pub shape_of-nodes : goal.shape_of-nodes
shape_of-nodes c =
    let t = (goal.at.shape_of-nodes c).After-correct_all in
    ap length (left t) ∙ corrected_length narrow _ _ _ _ ∙ sym (correct_accepted narrow _ _ _ _ _ (accepted (goal.at.shape_of-nodes c).In_ok-judge_correct)).known.long

pub returns : goal.returns
returns c =
    let t = (goal.at.returns c).After-correct_all in
    let number = accepted (goal.at.returns c).In_ok-judge_correct in
    corrects _ _ _ _ _ _ _ (sym number) (left t ∙ sym (afterwards_done _ _ _ number))
