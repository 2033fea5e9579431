-- `shape::listed` meets its contract: x is in the list where it is in what is left of it. Assumes nothing.
use mathlib.Core.Path.{◌≡◌}
use Prim.Native.Nat.{◌≤◌}
use lib.ListN.{length, drop}
use Rattle.lists.specs.Lists.{member}
use Rattle.shape.proofs.listed.Given as goal

abbrev pub invariant-loop-node : goal.invariant-loop-node
invariant-loop-node l = (l.node-index ≤ length l.list) × (member l.x l.list ≡ member l.x (drop l.node-index l.list))
