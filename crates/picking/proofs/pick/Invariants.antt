-- `picking::pick` meets its contract. Assumes nothing.
use Rattle.std.proofs.Common.{◌+◌}
use Rattle.tables.specs.Tables.{TableOf}
use Rattle.picking.proofs.pick.Given as goal

abbrev pub invariant-loop-i : goal.invariant-loop-i
invariant-loop-i l = TableOf l.n (◌+◌ l.a) l.run l.list l.i l.table
