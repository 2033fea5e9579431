-- The terms added and turned into those of the next equation, one at a time.
use Rattle.std.proofs.Common.{◌≡◌, ◌+◌, ◌*◌, ◌%◌, refl, sym, ap, ◌∙◌, add-one, get_or-set_other, arith}
use Rattle.lists.specs.Lists.{element}
use Rattle.lists.specs.Sums.{sum}
use Rattle.lists.proofs.Sums.{sum_suc}
use Rattle.lists.proofs.Stores.{stored_more}
use Rattle.column.proofs.advance.Goals as goal

pub loop-i-init : goal.loop-i-init
loop-i-init c = record { fit = λ k. omega (arith, c.type_inv.terms k); few = omega arith; added = (unfold sum in refl); passed = λ k h. absurd (omega arith); left = λ k h. refl }

pub loop-i-preserved : goal.loop-i-preserved
loop-i-preserved c =
    let l = c.loop-i in
    let s = c.args in
    let here : element l.terms l.i ≡ element s.terms.now l.i = l.invariant.left l.i (omega arith) in
    record {
      fit = l.invariant.fit;
      few = omega (arith, c.from-sum.ensures, here, l.invariant.fit l.i);
      added =
          ap (λ z. l.sum + z) (c.from-sum.ensures ∙ here) ∙ ap (λ z. z + element s.terms.now l.i) l.invariant.added
          ∙ sym (rw (add-one l.i) (sum_suc l.i (element s.terms.now)));
      passed =
          stored_more (λ k x. x ≡ (element s.terms.now k * element s.points.now k) % s.q) l.terms l.i _ 0 (omega arith) l.invariant.passed
          (c.multiply.ensures.1 ∙ ap (λ z. (z * element s.points.now l.i) % s.q) here);
      left = λ k h. get_or-set_other l.terms l.i k _ 0 (λ e. omega arith) ∙ l.invariant.left k (omega arith);
    }
