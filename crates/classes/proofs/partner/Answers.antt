-- `classes::partner` meets its contract: the table of document 01, row by row. Assumes nothing.
use mathlib.Core.Path.{sym}
use native.Mathlib.Omega.{arith}
use borrow.Author.Tests.{lt-ltb, le-ltb}
use Rattle.classes.specs.Classes.{partner}
use Rattle.classes.proofs.Layouts.{bounded}
use Rattle.classes.proofs.partner.Goals as goal

pub nonzero_div-row : goal.nonzero_div-row
nonzero_div-row c = omega (arith, (bounded c.requires.0).batch_low)

pub nonzero_rem-rest : goal.nonzero_rem-rest
nonzero_rem-rest c = omega (arith, (bounded c.requires.0).batch_low)

pub returns-then-row-top : goal.returns-then-row-top
unfolding partner
returns-then-row-top c = let R = c.requires.0 in simp (sym R.batch_is, sym R.top_is, lt-ltb _ _ c.if-row-top.true)

pub returns-else-row-top : goal.returns-else-row-top
unfolding partner
returns-else-row-top c = let R = c.requires.0 in simp (sym R.batch_is, sym R.top_is, le-ltb _ _ c.if-row-top.false)
