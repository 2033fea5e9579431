-- `wiring::first_on_wire` meets its contract: the sums of the members passed are done, in every batch. Assumes nothing.
use mathlib.Core.Path.{◌≡◌}
use Prim.Native.Nat.{◌-◌, ◌≤◌}
use lib.ListN.{length}
use Rattle.code.specs.Code.{narrow}
use Rattle.rows.specs.Rows.{Low}
use Rattle.tables.specs.Tables.{table_size}
use Rattle.filling.specs.Filling.{Below}
use Rattle.wiring.specs.Wires.{OnWire}
use Rattle.wiring.proofs.first_on_wire.Given as goal

abbrev pub invariant-loop-first : goal.invariant-loop-first
invariant-loop-first l = (l.first ≤ l.count) × (length l.table ≡ table_size) × Low narrow.modulus l.table × OnWire l.g.shape l.dead l.helpers l.u (Below l.count l.first) l.initial.part l.part l.initial.wire l.wire

abbrev pub decreases-loop-first : goal.decreases-loop-first
decreases-loop-first l = l.count - l.first
