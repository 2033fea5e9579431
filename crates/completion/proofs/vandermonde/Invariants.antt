-- `completion::vandermonde` meets its contract. Assumes nothing.
use Rattle.std.proofs.Common.{◌≡◌, ℕ, ◌<◌, List, [], get_or}
use Rattle.lists.specs.Lists.{element}
use Rattle.column.specs.Solving.{power_of}
use Rattle.completion.proofs.vandermonde.Given as goal

-- the first r powers of point k
abbrev pub Row : ℕ → ℕ → List ℕ → ℕ → List ℕ → Type 0
Row q r points k row = (t : ℕ) → t < r → element row t ≡ power_of q (element points k) t

abbrev pub invariant-loop-j : goal.invariant-loop-j
invariant-loop-j l = (k : ℕ) → k < l.j → Row l.q l.r l.points k (get_or l.row-items k [])
