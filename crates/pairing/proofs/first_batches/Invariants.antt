-- `pairing::first_batches` meets its contract: the sums of the batches passed are done. Assumes nothing.
use mathlib.Core.Bool.{false}
use Prim.Native.Nat.{◌-◌, ◌≤◌}
use Rattle.filling.specs.Filling.{InLayers}
use Rattle.solving.specs.Solving.{pair_place, Owned, HandedOut}
use Rattle.pairing.proofs.first_batches.Given as goal

abbrev pub invariant-loop-b : goal.invariant-loop-b
invariant-loop-b l =
    (l.b ≤ l.batches) × Owned l.g.shape l.dead l.helpers l.u l.messages pair_place (InLayers l.size l.first l.run l.b) l.initial.pairs l.pairs
    × HandedOut l.g.shape l.dead l.helpers l.u l.messages false (InLayers l.size l.first l.run l.b) l.initial.sums l.sums

abbrev pub decreases-loop-b : goal.decreases-loop-b
decreases-loop-b l = l.batches - l.b
