-- `column::substituted` meets its contract. Assumes nothing.
use Rattle.std.proofs.Common.{◌≡◌, ℕ, ◌≤◌, ◌<◌, length}
use Rattle.inverting.specs.Inverses.{Pivots}
use Rattle.column.specs.Solving.{most_entries, pivot, Meets}
use Rattle.column.proofs.substituted.Given as goal

abbrev pub invariant-loop-i : goal.invariant-loop-i
invariant-loop-i l =
    (length l.values ≡ most_entries)
    × (Pivots l.q l.r (pivot l.triangle) → (k : ℕ) → l.i ≤ k → k < l.r → Meets l.q l.r l.triangle l.right l.values k)
