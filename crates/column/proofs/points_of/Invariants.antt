-- The points of a Vandermonde matrix, one at a time.
use Rattle.std.proofs.Common.{◌≡◌, ℕ, ◌<◌}
use Rattle.lists.specs.Lists.{element}
use Rattle.column.specs.Solving.{cell}
use Rattle.column.proofs.points_of.Given as goal

abbrev pub invariant-loop-j : goal.invariant-loop-j
invariant-loop-j l = (k : ℕ) → k < l.j → element l.point-items k ≡ cell l.powers k 1
