-- `patterns::patterns_of` meets its contract. Assumes nothing.
use mathlib.Core.Path.{◌≡◌}
use Prim.Native.Nat.{ℕ, ◌+◌, ◌<◌}
use lib.ListN.{length}
use Rattle.lists.specs.Lists.{element}
use Rattle.rows.specs.Rows.{most_places}
use Rattle.patterns.specs.Patterns.{pattern}
use Rattle.patterns.proofs.patterns_of.Given as goal

abbrev pub invariant-loop-node : goal.invariant-loop-node
invariant-loop-node l = (length l.out ≡ most_places) × ((t : ℕ) → t < l.run → element l.out t ≡ pattern l.marked (l.a + t) l.node)
