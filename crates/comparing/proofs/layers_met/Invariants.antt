-- `comparing::layers_met` meets its contract: what would be filled in at the layers passed is there already. Assumes nothing.
use Rattle.std.proofs.Common.{◌*◌, ◌^◌}
use Rattle.filling.specs.Filling.{Filled, InLayers}
use Rattle.comparing.proofs.layers_met.Given as goal

abbrev pub invariant-loop-layer : goal.invariant-loop-layer
invariant-loop-layer l = Filled l.n (l.layers * 2 ^ l.n) l.list (InLayers (2 ^ l.n) l.a l.run l.layer) l.nodes l.nodes
