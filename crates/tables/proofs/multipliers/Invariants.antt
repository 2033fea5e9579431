-- `tables::multipliers` meets its contract. Assumes nothing.
use Rattle.std.proofs.Common.{◌≡◌, ℕ, ◌+◌, ◌<◌}
use Rattle.lists.specs.Lists.{element}
use Rattle.tables.proofs.multipliers.Given as goal

abbrev pub invariant-loop-t : goal.invariant-loop-t
invariant-loop-t l = (k : ℕ) → k < l.t → element l.x-items k ≡ l.a + k
