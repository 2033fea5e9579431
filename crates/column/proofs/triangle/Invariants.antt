-- The triangle, a row for each equation, each from the one before.
use Rattle.std.proofs.Common.{◌≡◌, ℕ, ◌<◌, List, [], get_or}
use Rattle.lists.specs.Lists.{element}
use Rattle.column.specs.Solving.{differences}
use Rattle.column.proofs.triangle.Given as goal

-- what row i of the triangle is
abbrev pub Row : ℕ → ℕ → List ℕ → ℕ → List ℕ → Type 0
Row q r points i row = (j : ℕ) → j < r → element row j ≡ differences q (element points) i (element points j)

abbrev pub invariant-loop-i : goal.invariant-loop-i
invariant-loop-i l = Row l.q l.r l.points l.i l.row × ((k : ℕ) → k < l.i → Row l.q l.r l.points k (get_or l.factors-items k []))
