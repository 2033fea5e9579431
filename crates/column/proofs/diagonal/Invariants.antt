-- The pivots, one at a time.
use Rattle.std.proofs.Common.{◌≡◌, ℕ, ◌<◌}
use Rattle.lists.specs.Lists.{element}
use Rattle.column.specs.Solving.{cell}
use Rattle.column.proofs.diagonal.Given as goal

abbrev pub invariant-loop-i : goal.invariant-loop-i
invariant-loop-i l = (k : ℕ) → k < l.i → element l.pivot-items k ≡ cell l.triangle k k
