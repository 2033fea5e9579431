-- Solving r equations in r unknowns: what is promised of `solve` and `complete`, and of the steps inside them; equations without a pivot 0.
use Rattle.std.specs.Prelude.{◌≡◌, true, false, List, [], ℕ, zero, suc, ◌+◌, ◌*◌, ◌-◌, ◌%◌, ◌^◌, ◌<◌, ◌≤◌, length, get_or, take}
use Rattle.lists.specs.Lists.{element, rising, member}
use Rattle.lists.specs.Sums.{sum}
use Rattle.field.specs.Residues.{Prime, minus, solution}
use Rattle.shape.specs.Shape.{most_nodes}
use Rattle.inverting.specs.Inverses.{Pivots}
use Rattle.column.specs.Column.{Points, unknowns, missing, completed}

-- the most entries of a column: n + 1 of a first step
abbrev pub most_entries : ℕ
most_entries = most_nodes + 1

-- element t of row j of an array of arrays
abbrev pub cell : List (List ℕ) → ℕ → ℕ → ℕ
cell rows j t = get_or (get_or rows j []) t 0

-- the t-th power of x, modulo q
abbrev pub power_of : ℕ → ℕ → ℕ → ℕ
power_of q x t = x ^ t % q

-- the powers of the points: "The Vandermonde equations as an array of arrays", a row for each unknown, in it its factor in each equation
pub record Vandermonde (q : ℕ) (points : List ℕ) (powers : List (List ℕ)) : Type 0 where
  pub power : (j t : ℕ) → j < length points → t < length points → cell powers j t ≡ power_of q (element points j) t

-- The values that `solve` gives: for the Vandermonde equations of points that differ, modulo a prime, their solution. For any other
-- equations the values are free.
pub record Solves (q r : ℕ) (powers : List (List ℕ)) (right values : List ℕ) : Type 0 where
  pub long : length values ≡ most_entries
  pub solved : (points : List ℕ) → length points ≡ r → Prime q → Points q points → Vandermonde q points powers
      → take r values ≡ solution q points (element right)

-- what `complete` is given: a prime, distinct points, a rising list of entries and a value for each of them
pub record Known (q : ℕ) (points list values : List ℕ) : Type 0 where
  pub prime : Prime q
  pub few : length points ≤ most_entries
  pub apart : Points q points
  pub up : rising 0 (length points) list ≡ true
  pub each : length values ≡ length list

-- the values at the other entries
pub record Missing (q : ℕ) (points list values out : List ℕ) : Type 0 where
  pub long : length out ≡ most_entries
  pub found : take (length points - length list) out ≡ missing q points list (element values)

-- the whole column
pub record Completes (q : ℕ) (points list values column : List ℕ) : Type 0 where
  pub whole : column ≡ completed q points list (element values)

-- ---- the steps inside

-- each equation less x times the one before it, numbered from 0 again
unfoldable pub less : ℕ → ℕ → (ℕ → ℕ) → ℕ → ℕ
less q x side t = minus q (side (t + 1)) (x * side t)

-- a side of the equations after i points are eliminated
unfoldable pub eliminated : ℕ → (ℕ → ℕ) → ℕ → (ℕ → ℕ) → ℕ → ℕ
eliminated q points zero side = side
eliminated q points (suc i) side = less q (points i) (eliminated q points i side)

-- x less each of the first i points, multiplied: what is left, after i points, of the powers of x
unfoldable pub differences : ℕ → (ℕ → ℕ) → ℕ → ℕ → ℕ
differences q points zero x = 1
differences q points (suc i) x = (differences q points i x * minus q x (points i)) % q

-- the term of the d-th value from `start` on, in an equation with these factors
unfoldable pub term : List ℕ → List ℕ → ℕ → ℕ → ℕ
term row values start d = element row (start + d) * element values (start + d)

-- the factors of equation i
abbrev pub row_of : List (List ℕ) → ℕ → List ℕ
row_of rows i = get_or rows i []

-- the pivots of a triangle stand on its diagonal
abbrev pub pivot : List (List ℕ) → ℕ → ℕ
pivot triangle i = cell triangle i i

-- value i is below the modulus, and meets equation i of those of which equation i has the unknowns from i on
pub record Meets (q r : ℕ) (triangle : List (List ℕ)) (right values : List ℕ) (i : ℕ) : Type 0 where
  pub small : element values i < q
  pub met : sum (r - i) (term (row_of triangle i) values i) % q ≡ element right i % q

-- back substitution in such equations
pub record Substituted (q r : ℕ) (triangle : List (List ℕ)) (right values : List ℕ) : Type 0 where
  pub long : length values ≡ most_entries
  pub meets : Pivots q r (pivot triangle) → (i : ℕ) → i < r → Meets q r triangle right values i

-- the sum of an equation's terms, and the terms of the next equation
pub record Advanced (q : ℕ) (points before after : List ℕ) (total : ℕ) : Type 0 where
  pub added : total ≡ sum (length points) (element before) % q
  pub long : length after ≡ length before
  pub next : (i : ℕ) → i < length points → element after i ≡ (element before i * element points i) % q

-- values stored at listed entries of a column, the other entries as they were
pub record Scattered (list values before after : List ℕ) : Type 0 where
  pub long : length after ≡ length before
  pub listed : (j : ℕ) → j < length list → element after (element list j) ≡ element values j
  pub unlisted : (i : ℕ) → member i list ≡ false → element after i ≡ element before i

-- ---- one set of equations (document 02 §11)

-- pivot i of `solve`: what the points before it leave of the factor of unknown i in equation i
abbrev pub pivot_at : ℕ → List ℕ → ℕ → ℕ
pivot_at q points i = differences q (element points) i (element points i)

-- A column's points with some of its entries listed: "All points in one set of equations differ", and no pivot is 0 that `solve` has for the
-- others. The symbols stand in the right sides alone: whatever these are, the values that `solve` promises are the solution.
pub record Solvable (q : ℕ) (points list : List ℕ) : Type 0 where
  pub differ : Points q points
  pub pivots : Pivots q (length (unknowns points list)) (pivot_at q (unknowns points list))
  pub solved : (powers : List (List ℕ)) (right values : List ℕ) → Vandermonde q (unknowns points list) powers
      → Solves q (length (unknowns points list)) powers right values
      → take (length (unknowns points list)) values ≡ solution q (unknowns points list) (element right)
