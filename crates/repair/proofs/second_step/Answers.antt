-- `repair::second_step` meets its contract: turned back, or all symbols of the new node's rank. Assumes nothing.
use mathlib.Core.Path.{◌≡◌, sym, ap, ap₂, ◌∙◌}
use native.Mathlib.Omega.{arith}
use lib.ListN.{length}
use Rattle.shape.specs.Refusals.{answer_number}
use Rattle.shape.proofs.Answers.{afterwards_done, handed_on}
use Rattle.rows.proofs.Rows.{low_each}
use Rattle.code.specs.Code.{narrow}
use Rattle.classes.specs.Steps.{contents}
use Rattle.judging.specs.Refusals.{second_step_refusal}
use Rattle.judging.proofs.Judged.{turned_back, lists_ready, SecondPassed, second_passed}
use Rattle.repair.proofs.second_step.Goals as goal
use Rattle.repair.proofs.second_step.Goals.{In_ok-judge_second}

pub returns-in_err-judge_second : goal.returns-in_err-judge_second
returns-in_err-judge_second c = rw (handed_on _ c.from_residual.ensures.1) (record { number = ap answer_number (sym c.in_err-judge_second.was) ∙ c.judge_second.ensures; symbols = turned_back _ _ _ _ _ c.in_err-judge_second.was c.judge_second.ensures })

none : (c : In_ok-judge_second) →
    let a = c.args in
    second_step_refusal narrow a.s a.dead.now a.helpers.now a.new a.pairs.now a.received.now (length a.symbols.now) ≡ 0
none c = sym c.judge_second.ensures ∙ ap answer_number c.in_ok-judge_second.was

known : (c : In_ok-judge_second) →
    let a = c.args in
    SecondPassed a.s a.dead.now a.helpers.now a.new a.pairs.now a.received.now (length a.symbols.now)
known c = second_passed _ _ _ _ _ _ _ (none c)

pub laid_out-g-requires : goal.laid_out-g-requires
laid_out-g-requires c = lists_ready _ _ _ _ (known c).listed

pub rank_of-requires : goal.rank_of-requires
rank_of-requires c = (c.laid_out-g.ensures.1, (known (goal.at.rank_of-requires c).In_ok-judge_second).new_dead)

pub second-requires : goal.second-requires
second-requires c =
    let k = known (goal.at.second-requires c).In_ok-judge_second in
    let g = c.laid_out-g.ensures in
    record { ready = (g.1, c.rank_of.ensures.0, rw g.0 k.pairs_long); received_len = (rw g.0 k.received_long, rw g.0 k.due); low = (low_each _ _ (omega arith) k.pairs_below, low_each _ _ (omega arith) k.received_below) }

pub returns : goal.returns
returns c =
    let e = none (goal.at.returns c).In_ok-judge_second in
    let a = c.args in
    record {
      number = sym e;
      symbols =
          c.second.ensures
          ∙ ap₂ (λ s u. contents narrow s a.dead.now u a.pairs.now a.received.now) c.laid_out-g.ensures.0 c.rank_of.ensures.1
          ∙ sym (afterwards_done _ _ _ e);
    }
