-- Opening by multipliers (document 02, §4).
use Rattle.std.specs.Prelude.{◌≡◌, cond, List, ℕ, ◌*◌, ◌%◌, ◌<◌, length, get_or}
use Rattle.lists.specs.Lists.{member, position}
use Rattle.lists.specs.Sums.{sum}
use Rattle.shape.specs.declared.Shape.{Shape}
use Rattle.shape.specs.Shape.{size}
use Rattle.code.specs.Code.{Code, points}
use Rattle.code.specs.Archive.{symbol, data_of}
use Rattle.multipliers.specs.Multipliers.{multiplier, unit}

-- what the symbol of listed node j is multiplied by in node i: "multipliers that n, k, the list and a alone fix" (k is the list's length). A
-- listed node has its own symbol.
unfoldable pub factor : Code → ℕ → List ℕ → ℕ → ℕ → ℕ → ℕ
factor c n list a i j = cond (member i list) (unit (position i list) j) (multiplier c.modulus (points c n a) list i j)

-- "the sum of those k symbols times multipliers"
unfoldable pub weighed : Code → Shape → List ℕ → (ℕ → ℕ) → ℕ → ℕ
weighed c s symbols multipliers place = sum s.k (λ j. multipliers j * symbol s symbols j place) % c.modulus

-- these multipliers give data node i's symbol at a place, of all symbols that the k listed nodes may hold
pub record Opener (c : Code) (s : Shape) (list : List ℕ) (i place : ℕ) (multipliers : ℕ → ℕ) : Type 0 where
  pub gives : (symbols : List ℕ) → length symbols ≡ s.k * size s → ((e : ℕ) → e < length symbols → get_or symbols e 0 < c.modulus)
      → symbol s (data_of c s list symbols) i place ≡ weighed c s symbols multipliers place
