-- `tables::flagged` meets its contract. Assumes nothing.
use Rattle.std.proofs.Common.{◌≡◌, ℕ, ◌<◌, cond, false, get_or, not}
use Rattle.lists.specs.Lists.{member}
use Rattle.tables.proofs.flagged.Given as goal

abbrev pub invariant-loop-i : goal.invariant-loop-i
invariant-loop-i l = (k : ℕ) → k < l.i → get_or l.flag-items k false ≡ cond l.wanted (member k l.list) (not (member k l.list))
