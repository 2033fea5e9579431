-- `completion::gathered` meets its contract. Assumes nothing.
use Rattle.std.proofs.Common.{◌≡◌, ℕ, ◌<◌, length}
use Rattle.lists.specs.Lists.{element}
use Rattle.column.specs.Solving.{most_entries}
use Rattle.completion.proofs.gathered.Given as goal

abbrev pub invariant-loop-j : goal.invariant-loop-j
invariant-loop-j l = (length l.out ≡ most_entries) × ((k : ℕ) → k < l.j → element l.out k ≡ element l.points (element l.list k))
