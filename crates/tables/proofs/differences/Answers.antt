-- `tables::differences` meets its contract. Assumes nothing.
use mathlib.Core.Path.{◌≡◌, subst}
use native.Mathlib.Omega.{arith}
use Rattle.tables.specs.Tables.{DifferenceRow}
use Rattle.tables.proofs.Tables.{differences_start, differences_skip, differences_more}
use borrow.Author.Rules.{rules}
use Rattle.tables.proofs.differences.Goals as goal

pub loop-m-init : goal.loop-m-init
loop-m-init c =
    differences_start _ _ c.requires.1 _ _ _ _

pub loop-m-preserved-then-marked-m : goal.loop-m-preserved-then-marked-m
loop-m-preserved-then-marked-m c =
    let l = c.loop-m in
    differences_skip _ _ c.requires.1 _ _ _ _ l.m l.out (omega arith) l.invariant c.if-marked-m.true

pub scale-requires : goal.scale-requires
scale-requires c =
    let l = c.loop-m in
    (search rules, search rules, search rules, omega arith, omega arith, c.requires.3, l.invariant.low, l.invariant.long)

pub loop-m-preserved : goal.loop-m-preserved
loop-m-preserved c =
    let l = c.loop-m in
    differences_more _ _ c.requires.1 _ _ _ _ l.m l.out (omega arith) l.invariant _ c.requires.4 c.if-marked-m.false c.scale.ensures

pub returns : goal.returns
returns c =
    let l = c.loop-m in
    let s = c.args in
    let e : l.m ≡ s.n = omega arith in
    subst (λ m. DifferenceRow s.n s.run s.points.now s.marked s.i s.x m l.out) e l.invariant
