-- `restoring::place_nodes` meets its contract. Assumes nothing.
use mathlib.Core.Path.{◌≡◌}
use Prim.Native.Nat.{◌-◌, ◌≤◌}
use lib.ListN.{length}
use Rattle.restoring.specs.Steps.{ListedPlaced}
use Rattle.restoring.proofs.place_nodes.Given as goal

abbrev pub invariant-loop-j : goal.invariant-loop-j
invariant-loop-j l = (l.j ≤ length l.list) × ListedPlaced l.each l.list l.symbols l.j l.initial.nodes l.nodes
