-- `picking::looked_up` meets its contract. Assumes nothing.
use borrow.Author.Tests.{eq-eqb, ne_eqb}
use Rattle.picking.specs.Picking.{looked_up}
use Rattle.picking.proofs.looked_up.Goals as goal

pub returns-then-bit-eq0 : goal.returns-then-bit-eq0
unfolding looked_up
returns-then-bit-eq0 c = rw (eq-eqb _ _ c.if-bit-eq0.true)

pub returns-else-bit-eq0 : goal.returns-else-bit-eq0
unfolding looked_up
returns-else-bit-eq0 c = rw (ne_eqb _ _ c.if-bit-eq0.false)
