-- `shape::rises` meets its contract: the list rises where what is left of it rises from `low` on. Assumes nothing.
use mathlib.Core.Path.{◌≡◌}
use Prim.Native.Nat.{◌≤◌}
use lib.ListN.{length, drop}
use Rattle.lists.specs.Lists.{rising}
use Rattle.shape.proofs.rises.Given as goal

abbrev pub invariant-loop-node : goal.invariant-loop-node
invariant-loop-node l = (l.node-index ≤ length l.list) × (rising 0 l.n l.list ≡ rising l.low l.n (drop l.node-index l.list))
