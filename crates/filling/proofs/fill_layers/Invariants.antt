-- `filling::fill_layers` meets its contract. Assumes nothing.
use Rattle.std.proofs.Common.{◌*◌, ◌^◌}
use Rattle.filling.specs.Filling.{Filled, InLayers}
use Rattle.filling.proofs.fill_layers.Given as goal

abbrev pub invariant-loop-layer : goal.invariant-loop-layer
invariant-loop-layer l = Filled l.n (l.layers * 2 ^ l.n) l.list (InLayers (2 ^ l.n) l.a l.run l.layer) l.initial.nodes l.nodes
