-- `checking::first_unmet` meets its contract: at each level of the loops every equation before this one is met. Assumes nothing.
use Prim.Native.Nat.{ℕ, ◌≤◌, ◌+◌, ◌-◌, ◌*◌}
use Rattle.shape.specs.declared.Shape.{Shape}
use Rattle.checking.proofs.Checking.{MetBelow}
use Rattle.checking.proofs.first_unmet.Given as goal

-- the shape of these numbers
abbrev pub shape : ℕ → ℕ → ℕ → Shape
shape n k layers = record { n = n; k = k; layers = layers }

abbrev pub invariant-loop-t : goal.invariant-loop-t
invariant-loop-t l = (l.t ≤ l.r) × MetBelow (shape l.n l.k l.layers) l.nodes ((l.layer * l.two + l.a) * l.r + l.t)

abbrev pub decreases-loop-t : goal.decreases-loop-t
decreases-loop-t l = l.r - l.t

abbrev pub invariant-loop-a : goal.invariant-loop-a
invariant-loop-a l = (l.a ≤ l.two) × MetBelow (shape l.n l.k l.layers) l.nodes ((l.layer * l.two + l.a) * l.r)

abbrev pub decreases-loop-a : goal.decreases-loop-a
decreases-loop-a l = l.two - l.a

abbrev pub invariant-loop-layer : goal.invariant-loop-layer
invariant-loop-layer l = (l.layer ≤ l.layers) × MetBelow (shape l.n l.k l.layers) l.nodes (l.layer * l.two * l.r)

abbrev pub decreases-loop-layer : goal.decreases-loop-layer
decreases-loop-layer l = l.layers - l.layer
