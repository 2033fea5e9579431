-- `rows::scale` meets its contract. Assumes nothing.
use Rattle.std.proofs.Common.{◌≡◌, ◌+◌, ◌<◌, get_or, get_or-set_other, ◌∙◌, arith}
use Rattle.lists.proofs.Stores.{stored_more}
use Rattle.rows.specs.Rows.{scaled}
use Rattle.rows.proofs.Rows.{product_difference}
use Rattle.rows.proofs.scale.Goals as goal

pub loop-i-preserved : goal.loop-i-preserved
unfolding scaled
loop-i-preserved c =
    let l = c.loop-i in
    let a = c.args in
    let in_run : l.i < a.run = omega arith in
    let there : get_or l.product-items l.i 0 ≡ get_or a.row.now l.i 0 = l.invariant.left l.i (omega arith) in_run in
    record {
      passed =
          stored_more (λ k x. x ≡ scaled a.q a.points.now a.x a.y a.row.now k) l.product-items l.i _ 0 (omega arith) l.invariant.passed
          (rw there (product_difference a.q _ _ _ (c.requires.5.at (a.y + l.i))));
      left = λ k h r. get_or-set_other l.product-items l.i k _ 0 (λ e. omega arith) ∙ l.invariant.left k (omega arith) r;
    }
