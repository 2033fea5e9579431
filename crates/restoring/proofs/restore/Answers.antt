-- `code::restore` meets its contract: turned back by the judging, or restored. Assumes nothing.
use mathlib.Core.Path.{◌≡◌, sym, ap, ◌∙◌}
use lib.ListN.{length}
use Rattle.shape.specs.Refusals.{answer_number}
use Rattle.shape.proofs.Answers.{handed_on}
use Rattle.code.specs.Code.{narrow}
use Rattle.code.specs.Refusals.{restore_refusal}
use Rattle.code.proofs.Restored.{restored_length}
use Rattle.code.proofs.Accepted.{restore_accepted}
use Rattle.code.proofs.Promised.{restores_refused, restores_done}
use Rattle.restoring.proofs.restore.Goals as goal
use Rattle.restoring.proofs.restore.Goals.{In_ok-judge_restore}

-- the judging found no cause
accepted : (c : In_ok-judge_restore) →
    let a = c.args in
    restore_refusal narrow a.s a.list.now a.symbols.now (length a.nodes.now) ≡ 0
accepted c = sym c.judge_restore.ensures ∙ ap answer_number c.in_ok-judge_restore.was

pub restore_all-requires : goal.restore_all-requires
restore_all-requires c = accepted (goal.at.restore_all-requires c).In_ok-judge_restore

pub returns-in_err-judge_restore : goal.returns-in_err-judge_restore
returns-in_err-judge_restore c = rw (handed_on _ c.from_residual.ensures.1) (restores_refused _ _ _ _ _ (ap answer_number (sym c.in_err-judge_restore.was) ∙ c.judge_restore.ensures))

pub shape_of-nodes : goal.shape_of-nodes
shape_of-nodes c =
    let w = restore_accepted _ _ _ _ (accepted (goal.at.shape_of-nodes c).In_ok-judge_restore) in
    ap length c.restore_all.ensures ∙ restored_length narrow _ _ _ w.given ∙ sym w.whole

pub returns : goal.returns
returns c =
    (restores_done _ _ _ _ _ (accepted (goal.at.returns c).In_ok-judge_restore) c.restore_all.ensures)
