-- `rows::add_products` meets its contract. Assumes nothing.
use Rattle.std.proofs.Common.{◌≡◌, ◌+◌, ◌*◌, ◌<◌, get_or, get_or-set_other, ◌∙◌, arith}
use Rattle.lists.proofs.Stores.{stored_more}
use Rattle.rows.specs.Rows.{added}
use Rattle.rows.proofs.add_products.Goals as goal
use Rattle.rows.proofs.add_products.Goals.{After-from-in-loop-i}

in_run : (c : After-from-in-loop-i) → c.loop-i.i < c.args.run
in_run c = omega arith

-- the sum that is stored
one_more : (c : After-from-in-loop-i) →
    let l = c.loop-i in
    let a = c.args in
    get_or l.sum-items l.i 0 + c.from.result * c.from-in-loop-i.result ≡ added a.factors.now a.f a.symbols.now a.s a.sums.now l.i
unfolding added
one_more c = let there = c.loop-i.invariant.left c.loop-i.i (omega arith) (in_run c) in cc (there, c.from.ensures, c.from-in-loop-i.ensures)

pub overflow_add-sum : goal.overflow_add-sum
overflow_add-sum c = let w = (goal.at.overflow_add-sum c).After-from-in-loop-i in omega (arith, one_more w, c.requires.3 c.loop-i.i (in_run w))

pub loop-i-preserved : goal.loop-i-preserved
loop-i-preserved c =
    let l = c.loop-i in
    let a = c.args in
    record {
      passed = stored_more (λ k x. x ≡ added a.factors.now a.f a.symbols.now a.s a.sums.now k) l.sum-items l.i _ 0 (omega arith) l.invariant.passed (one_more (goal.at.loop-i-preserved c).After-from-in-loop-i);
      left = λ k h r. get_or-set_other l.sum-items l.i k _ 0 (λ e. omega arith) ∙ l.invariant.left k (omega arith) r;
    }
