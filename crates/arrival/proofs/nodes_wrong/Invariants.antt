-- `arrival::nodes_wrong` meets its contract: the nodes are wrong where those that are left are. Assumes nothing.
use mathlib.Core.Path.{◌≡◌}
use Prim.Native.Nat.{◌≤◌, ◌-◌}
use lib.ListN.{length, drop}
use Rattle.arrival.proofs.Records.{wrong}
use Rattle.arrival.proofs.nodes_wrong.Given as goal

abbrev pub invariant-loop-j : goal.invariant-loop-j
invariant-loop-j l = (l.j ≤ length l.nodes) × (wrong l.helpers l.nodes ≡ wrong l.helpers (drop l.j l.nodes))
