-- `writing::write` meets its contract: turned back by the judging, or written. Assumes nothing.
use mathlib.Core.Path.{◌≡◌, sym, ap, ◌∙◌}
use mathlib.Core.Bool.{true}
use native.Mathlib.Omega.{arith}
use lib.ListN.{length}
use Rattle.lists.specs.Lists.{all, below}
use Rattle.lists.proofs.Tests.{at_all_below}
use Rattle.shape.specs.Shape.{byte_values}
use Rattle.shape.specs.Refusals.{answer_number}
use Rattle.shape.proofs.Answers.{handed_on}
use Rattle.code.specs.Code.{narrow}
use Rattle.code.specs.Refusals.{write_refusal}
use Rattle.code.proofs.Written.{written_codeword}
use Rattle.code.proofs.Accepted.{write_accepted}
use Rattle.code.proofs.Promised.{writes_refused, writes_done}
use Rattle.writing.proofs.write.Goals as goal
use Rattle.writing.proofs.write.Goals.{In_ok-judge_write}

-- the judging found no cause
accepted : (c : In_ok-judge_write) →
    let a = c.args in
    write_refusal a.s a.transcript.now (length a.nodes.now) ≡ 0
accepted c = sym c.judge_write.ensures ∙ ap answer_number c.in_ok-judge_write.was

-- a transcript is made of bytes
bytes : (c : In_ok-judge_write) → all (below byte_values) c.args.transcript.now ≡ true
bytes c = at_all_below byte_values _ (λ j h. omega (arith, c.type_inv.transcript j))

pub write_all-requires : goal.write_all-requires
write_all-requires c = accepted (goal.at.write_all-requires c).In_ok-judge_write

pub returns-in_err-judge_write : goal.returns-in_err-judge_write
returns-in_err-judge_write c = rw (handed_on _ c.from_residual.ensures.1) (writes_refused _ _ _ _ (ap answer_number (sym c.in_err-judge_write.was) ∙ c.judge_write.ensures))

pub shape_of-nodes : goal.shape_of-nodes
shape_of-nodes c =
    let w = write_accepted _ _ _ (accepted (goal.at.shape_of-nodes c).In_ok-judge_write) (bytes (goal.at.shape_of-nodes c).In_ok-judge_write) in
    ap length c.write_all.ensures ∙ (written_codeword narrow _ _ w.able).long ∙ sym w.whole

pub returns : goal.returns
returns c =
    (writes_done _ _ _ _ (accepted (goal.at.returns c).In_ok-judge_write) (bytes (goal.at.returns c).In_ok-judge_write) c.write_all.ensures)
