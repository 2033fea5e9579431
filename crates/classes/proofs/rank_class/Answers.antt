-- `classes::rank_class` meets its contract: the table of document 01, row by row. Assumes nothing.
use mathlib.Core.Path.{sym}
use native.Mathlib.Omega.{arith}
use borrow.Author.Tests.{eq-eqb, ne_eqb, lt-ltb, le-ltb}
use Rattle.classes.specs.Classes.{rank_class}
use Rattle.classes.proofs.Layouts.{bounded}
use Rattle.classes.proofs.rank_class.Goals as goal

pub nonzero_div-row : goal.nonzero_div-row
nonzero_div-row c = omega (arith, (bounded c.requires).batch_low)

pub nonzero_rem-rest : goal.nonzero_rem-rest
nonzero_rem-rest c = omega (arith, (bounded c.requires).batch_low)

pub returns-then-rest-eq0 : goal.returns-then-rest-eq0
unfolding rank_class
returns-then-rest-eq0 c = let R = c.requires in simp (sym R.batch_is, sym R.top_is, lt-ltb _ _ c.if-row-top.true, eq-eqb _ _ c.if-rest-eq0.true)

pub returns-else-rest-eq0 : goal.returns-else-rest-eq0
unfolding rank_class
returns-else-rest-eq0 c = let R = c.requires in simp (sym R.batch_is, sym R.top_is, lt-ltb _ _ c.if-row-top.true, ne_eqb _ _ c.if-rest-eq0.false)

pub returns-else-row-top : goal.returns-else-row-top
unfolding rank_class
returns-else-row-top c = let R = c.requires in simp (sym R.batch_is, sym R.top_is, le-ltb _ _ c.if-row-top.false)
