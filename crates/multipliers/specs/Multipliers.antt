-- Multipliers: a missing entry of a column is the sum of the listed values, each times a number that the points and the list alone fix.
use Rattle.std.specs.Prelude.{Bool, cond, ◌||◌, List, ℕ, zero, suc, ◌*◌, ◌%◌, eqb, length, get_or}
use Rattle.lists.specs.Lists.{member}
use Rattle.field.specs.Residues.{minus, inverse}

-- entry e is listed, or is i
unfoldable pub left_out : List ℕ → ℕ → ℕ → Bool
left_out list i e = member e list || eqb e i

-- the product of x less the point over the first m entries, the listed ones and i excepted
unfoldable pub differences : ℕ → List ℕ → List ℕ → ℕ → ℕ → ℕ → ℕ
differences q points list i x zero = 1
differences q points list i x (suc m) =
    let before = differences q points list i x m in
    cond (left_out list i m) before (before * minus q x (get_or points m 0) % q)

-- what the value of listed entry j is multiplied by in the missing entry i: a quotient of two such products
unfoldable pub multiplier : ℕ → List ℕ → List ℕ → ℕ → ℕ → ℕ
multiplier q points list i j =
    minus q 0 (differences q points list i (get_or points (get_or list j 0) 0) (length points))
    * inverse q (differences q points list i (get_or points i 0) (length points)) % q

-- 1 at j, and 0 elsewhere
unfoldable pub unit : ℕ → ℕ → ℕ
unit j e = cond (eqb e j) 1 0
