-- `shape::nodes_bad` meets its contract: the count, then the rising. Assumes nothing.
use mathlib.Core.Path.{sym}
use borrow.Author.Tests.{eq-eqb, ne_eqb}
use Rattle.shape.specs.Refusals.{nodes_bad}
use Rattle.shape.proofs.nodes_bad.Goals as goal

pub returns-then-list-count : goal.returns-then-list-count
unfolding nodes_bad
returns-then-list-count c = simp (ne_eqb _ _ c.if-list-count.true)

pub returns : goal.returns
unfolding nodes_bad
returns c = simp (eq-eqb _ _ c.if-list-count.false, sym c.rises.ensures)
