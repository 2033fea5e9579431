-- `finishing::entry_point` meets its contract. Assumes nothing.
use mathlib.Core.Path.{◌≡◌, sym, ap, ◌∙◌}
use native.Mathlib.Omega.{arith}
use lib.ListN.{get_or}
use Rattle.code.specs.Code.{narrow, more_points}
use Rattle.code.proofs.NodePoints.{more_at, more_behind}
use Prim.Native.Nat.{◌-◌}
use Rattle.finishing.proofs.entry_point.Goals as goal

pub returns-then-entry-n : goal.returns-then-entry-n
returns-then-entry-n c = let a = c.args in c.point.ensures.1 ∙ sym (more_at narrow a.n a.a a.i a.entry c.if-entry-n.true)

pub returns : goal.returns
returns c =
    let a = c.args in
    let e : a.n ≡ a.entry = omega (arith, c.if-entry-n.false, c.requires.2) in
    ap (λ z. narrow.modulus - z) c.point-2.ensures.1 ∙ sym (more_behind narrow a.n a.a a.i c.requires.1) ∙ ap (λ z. get_or (more_points narrow a.n a.a a.i) z 0) e

pub overflow_sub-result : goal.overflow_sub-result
overflow_sub-result c = omega (arith, c.point-2.ensures.0)
