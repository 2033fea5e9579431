-- Rows: what stands at consecutive places, worked on together.
use Rattle.std.specs.Prelude.{◌≡◌, List, ℕ, ◌+◌, ◌*◌, ◌%◌, ◌≤◌, ◌<◌, length, get_or}
use Rattle.field.specs.Residues.{minus}

-- the most places of a row
abbrev pub most_places : ℕ
most_places = 64

-- the most that a modulus may be, so that the product of a residue and a difference fits 32 bits
abbrev pub most_modulus : ℕ
most_modulus = 32768

-- every element is below q
pub record Low (q : ℕ) (xs : List ℕ) : Type 0 where
  pub at : (e : ℕ) → get_or xs e 0 < q

-- `count` elements from `at` on are f 0, f 1, .., and nothing else has changed
pub record Stored (at count : ℕ) (f : ℕ → ℕ) (before after : List ℕ) : Type 0 where
  pub long : length after ≡ length before
  pub there : (i : ℕ) → i < count → get_or after (at + i) 0 ≡ f i
  pub ahead : (e : ℕ) → e < at → get_or after e 0 ≡ get_or before e 0
  pub behind : (e : ℕ) → at + count ≤ e → get_or after e 0 ≡ get_or before e 0

-- each element times the difference of two points
unfoldable pub scaled : ℕ → List ℕ → ℕ → ℕ → List ℕ → ℕ → ℕ
scaled q points x y row i = get_or row i 0 * minus q (get_or points (x + i) 0) (get_or points (y + i) 0) % q

-- the opposite of each of a row's elements times one of another row
unfoldable pub quotient : ℕ → List ℕ → List ℕ → ℕ → ℕ
quotient q tops inverted i = minus q 0 (get_or tops i 0) * get_or inverted i 0 % q

-- each sum and one product more
unfoldable pub added : List ℕ → ℕ → List ℕ → ℕ → List ℕ → ℕ → ℕ
added factors f symbols s sums i = get_or sums i 0 + get_or factors (f + i) 0 * get_or symbols (s + i) 0

-- each sum modulo q
unfoldable pub remainder : ℕ → List ℕ → ℕ → ℕ
remainder q sums i = get_or sums i 0 % q

-- what a buffer holds from s on
unfoldable pub copied : List ℕ → ℕ → ℕ → ℕ
copied symbols s i = get_or symbols (s + i) 0
