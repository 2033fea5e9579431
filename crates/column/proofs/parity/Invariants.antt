-- The left sides of the equations, one at a time: the terms of each are those of the one before, times their points.
use Rattle.std.proofs.Common.{◌≡◌, ℕ, ◌*◌, ◌%◌, ◌^◌, ◌<◌, length}
use Rattle.lists.specs.Lists.{element}
use Rattle.column.specs.Column.{parity}
use Rattle.column.specs.Solving.{most_entries}
use Rattle.column.proofs.parity.Given as goal

abbrev pub invariant-loop-sum : goal.invariant-loop-sum
invariant-loop-sum l =
    (length l.terms ≡ most_entries)
    × ((i : ℕ) → i < length l.points → element l.terms i % l.q ≡ (element l.points i ^ l.sum-index * element l.column i) % l.q)
    × ((u : ℕ) → u < l.sum-index → element l.sum-items u ≡ parity l.q l.points l.column u)
