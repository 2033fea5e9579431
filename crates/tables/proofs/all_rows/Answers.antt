-- `tables::all_rows` meets its contract. Assumes nothing.
use mathlib.Core.Path.{◌≡◌, sym, ◌∙◌, subst}
use mathlib.Core.Bool.{false}
use native.Mathlib.Omega.{arith}
use lib.ListN.{get_or}
use Rattle.tables.specs.Tables.{TableOver}
use Rattle.tables.proofs.Tables.{table_none, table_skip, table_more}
use Rattle.tables.proofs.all_rows.Goals as goal

pub loop-i-init : goal.loop-i-init
loop-i-init c = (c.requires.marks.2, λ P col w. table_none _ _ c.requires.sizes.2 _ _ _ c.requires.marks.2 c.requires.marks.3)

pub loop-i-preserved-then-skipped-i : goal.loop-i-preserved-then-skipped-i
loop-i-preserved-then-skipped-i c =
    let l = c.loop-i in (l.invariant.0, λ P col w. table_skip _ _ c.requires.sizes.2 _ _ l.i _ (l.invariant.1 P col w) c.if-skipped-i.true)

pub entry_rows-requires : goal.entry_rows-requires
entry_rows-requires c =
    let l = c.loop-i in
    let p = c.requires in
    (p.sizes.0, p.sizes.2, p.sizes.3, p.sizes.4, p.sizes.5, omega arith, l.invariant.0, p.marks.1 l.i (omega arith) c.if-skipped-i.false, p.sizes.6)

pub loop-i-preserved : goal.loop-i-preserved
loop-i-preserved c =
    let l = c.loop-i in
    let p = c.requires in
    let w = c.entry_rows.ensures in
    (w.0 ∙ l.invariant.0, λ P col r. table_more _ _ p.sizes.2 _ _ l.i _ _ w.0 (l.invariant.1 P col r) (w.1 P col r p.marks.0))

pub shape_of-table : goal.shape_of-table
shape_of-table c = c.loop-i.invariant.0 ∙ sym c.requires.marks.2

pub returns : goal.returns
returns c =
    let l = c.loop-i in
    let s = c.args in
    let e : l.i ≡ s.m = omega arith in
    λ P col w. subst (λ m. TableOver P s.run s.list.now (λ i. get_or s.skipped i false) m l.table) e (l.invariant.1 P col w)
