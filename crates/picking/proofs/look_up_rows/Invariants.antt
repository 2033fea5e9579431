-- `picking::look_up_rows` meets its contract. Assumes nothing.
use Rattle.picking.specs.Picking.{LookedUp}
use Rattle.picking.proofs.look_up_rows.Given as goal

abbrev pub invariant-loop-j : goal.invariant-loop-j
invariant-loop-j l = LookedUp l.a l.run l.list l.picks l.last l.j l.out
