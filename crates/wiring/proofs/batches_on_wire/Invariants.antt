-- `wiring::batches_on_wire` meets its contract: the sums of the batches passed are done. Assumes nothing.
use Prim.Native.Nat.{◌-◌, ◌≤◌}
use Rattle.filling.specs.Filling.{InLayers}
use Rattle.wiring.specs.Wires.{OnWire}
use Rattle.wiring.proofs.batches_on_wire.Given as goal

abbrev pub invariant-loop-b : goal.invariant-loop-b
invariant-loop-b l = (l.b ≤ l.batches) × OnWire l.g.shape l.dead l.helpers l.u (InLayers l.count l.first l.run l.b) l.initial.part l.part l.initial.wire l.wire

abbrev pub decreases-loop-b : goal.decreases-loop-b
decreases-loop-b l = l.batches - l.b
