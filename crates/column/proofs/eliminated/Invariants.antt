-- `column::eliminated` meets its contract. Assumes nothing.
use Rattle.std.proofs.Common.{◌≡◌, ℕ, ◌-◌, ◌<◌, List}
use Rattle.lists.specs.Lists.{element}
use Rattle.column.specs.Solving.{eliminated}
use Rattle.column.proofs.eliminated.Given as goal

-- equation i once the points before i are eliminated
abbrev pub top : ℕ → List ℕ → List ℕ → ℕ → ℕ
top q points side i = eliminated q (element points) i (element side) 0

abbrev pub invariant-loop-i : goal.invariant-loop-i
invariant-loop-i l =
    ((k : ℕ) → k < l.i → element l.equation-items k ≡ top l.q l.points l.initial.left k)
    × ((t : ℕ) → t < l.r - l.i → element l.left t ≡ eliminated l.q (element l.points) l.i (element l.initial.left) t)
