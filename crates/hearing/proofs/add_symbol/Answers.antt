-- `hearing::add_symbol` meets its contract. Assumes nothing.
use Rattle.std.proofs.Common.{◌≡◌, ◌<◌, length, length-take, length-drop, ℕ, get_or-set_other, ◌∙◌, arith}
use Rattle.lists.proofs.Stores.{stored_more}
use Rattle.rows.proofs.Rows.{stored_part}
use Rattle.hearing.specs.Steps.{summed}
use Rattle.hearing.proofs.add_symbol.Goals as goal

pub loop-t-preserved : goal.loop-t-preserved
unfolding summed
loop-t-preserved c =
    let l = c.loop-t in
    let a = c.args in
    let here : l.t < a.r = omega arith in
    let there = l.invariant.left l.t (omega arith) here in
    record {
      passed = stored_more (λ k x. x ≡ summed a.symbol a.factors.now a.from a.at a.sums.now k) l.sum-items l.t _ 0 (omega arith) l.invariant.passed (cc (there, c.from.ensures, c.from-in-loop-t.ensures));
      left = λ k h r. get_or-set_other l.sum-items l.t k _ 0 (λ e. omega arith) ∙ l.invariant.left k (omega arith) r;
    }

pub returns : goal.returns
returns c =
    let l = c.loop-t in
    let n : length l.sum-items ≡ c.args.r = omega (arith, length-take {A = ℕ}, length-drop {A = ℕ}) in
    stored_part _ _ _ _ _ _ (omega arith) (omega arith) n (λ i h. l.invariant.passed i (omega arith))
