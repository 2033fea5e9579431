-- `column::substituted` meets its contract. Assumes nothing.
use Rattle.std.proofs.Common.{◌-◌, ◌*◌, ◌%◌, sym, ap, ◌∙◌, length-set, arith}
use Rattle.lists.specs.Lists.{element}
use Rattle.field.specs.Residues.{minus}
use Rattle.column.specs.Solving.{pivot}
use Rattle.inverting.proofs.Inverses.{pivots_ext}
use Rattle.column.proofs.Substitution.{divided_back, value_more}
use Rattle.column.proofs.substituted.Goals as goal

pub loop-i-preserved : goal.loop-i-preserved
loop-i-preserved c =
    let l = c.loop-i in
    let s = c.args in
    let diagonal = c.diagonal.ensures.1 in
    let inverses = c.inverted-inverses in (
      simp length-set l.invariant.0,
      λ w.
          value_more s.q s.r s.triangle s.right l.values (l.i - 1) c.multiply.result (omega arith) (omega arith)
          (λ k h. l.invariant.1 w k (omega arith))
          c.multiply.ensures.0
          (divided_back s.q w.prime _ _ _ _ _ _
          (c.subtract-rest.ensures.1 ∙ ap (minus s.q (element s.right (l.i - 1))) c.part_of.ensures.1)
          c.multiply.ensures.1
          (ap (λ p. (p * element inverses.result (l.i - 1)) % s.q) (sym (diagonal (l.i - 1) (omega arith)))
          ∙ inverses.ensures.2 (pivots_ext s.q s.r (pivot s.triangle) _ diagonal w) (l.i - 1) (omega arith))),
    )
