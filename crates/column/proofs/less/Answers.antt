-- One point eliminated from a side of the equations, an equation at a time.
use Rattle.std.proofs.Common.{◌≡◌, ◌+◌, ap, ◌∙◌, arith}
use Rattle.lists.specs.Lists.{element}
use Rattle.lists.proofs.Stores.{stored_more}
use Rattle.field.specs.Residues.{minus}
use Rattle.field.proofs.Bridge.{minus_mod}
use Rattle.column.specs.Solving.{less}
use Rattle.column.proofs.less.Goals as goal

pub loop-t-preserved : goal.loop-t-preserved
unfolding less
loop-t-preserved c =
    let l = c.loop-t in
    let s = c.args in
    stored_more (λ k x. x ≡ less s.q s.x (element s.side) k) l.equation-items l.t _ 0 (omega arith) l.invariant
    (c.subtract.ensures.1 ∙ ap (minus s.q (element s.side (l.t + 1))) c.multiply.ensures.1 ∙ minus_mod _ _ _)
