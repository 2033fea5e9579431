-- `completion::scatter` meets its contract. Assumes nothing.
use Rattle.std.proofs.Common.{◌≡◌, ℕ, ◌<◌, false, length}
use Rattle.lists.specs.Lists.{element, member}
use Rattle.completion.proofs.scatter.Given as goal

abbrev pub invariant-loop-entry : goal.invariant-loop-entry
invariant-loop-entry l =
    (length l.column ≡ length l.initial.column)
    × ((k : ℕ) → k < length l.yielded → element l.column (element l.list k) ≡ element l.values k)
    × ((i : ℕ) → member i l.list ≡ false → element l.column i ≡ element l.initial.column i)
