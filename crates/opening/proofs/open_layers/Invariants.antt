-- `opening::open_layers` meets its contract. Assumes nothing.
use mathlib.Core.Bool.{true}
use Prim.Native.Nat.{◌-◌, ◌≤◌}
use Rattle.opening.specs.Steps.{opened, Walked, OneOf, AtLayer}
use Rattle.opening.proofs.open_layers.Given as goal

abbrev pub invariant-loop-layer : goal.invariant-loop-layer
invariant-loop-layer l = (l.layer ≤ l.layers) × Walked (opened l.s l.list l.symbols) l.len l.room (OneOf l.layer (AtLayer l.s l.list l.run l.a)) l.initial.transcript l.transcript true

abbrev pub decreases-loop-layer : goal.decreases-loop-layer
decreases-loop-layer l = l.layers - l.layer
