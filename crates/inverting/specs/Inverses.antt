-- The inverses of a row by one power: what is promised of `invert`, and of the step inside it.
use Rattle.std.specs.Prelude.{◌≡◌, ◌≢◌, List, ℕ, zero, suc, ◌*◌, ◌%◌, ◌<◌, ◌≤◌, length}
use Rattle.lists.specs.Lists.{element}
use Rattle.field.specs.Residues.{Prime}

-- the product of the first i pivots
unfoldable pub product : ℕ → (ℕ → ℕ) → ℕ → ℕ
product q pivots zero = 1
product q pivots (suc i) = (product q pivots i * pivots i) % q

-- a prime modulus, and no pivot that is 0
pub record Pivots (q r : ℕ) (pivots : ℕ → ℕ) : Type 0 where
  pub prime : Prime q
  pub small : (i : ℕ) → i < r → pivots i < q
  pub nonzero : (i : ℕ) → i < r → pivots i ≢ 0

-- the product of the elements in front of each of a row's first m elements, and that of all m
pub record Products (q : ℕ) (row : List ℕ) (m : ℕ) (before after : List ℕ) (all : ℕ) : Type 0 where
  pub long : length after ≡ length before
  pub whole : all ≡ product q (element row) m
  pub each : (i : ℕ) → i < m → element after i ≡ product q (element row) i

-- a row's elements from i on inverted, where the modulus is a prime and none of them is 0
pub record Inverted (q : ℕ) (row : List ℕ) (i : ℕ) (out : List ℕ) : Type 0 where
  pub long : length out ≡ length row
  pub small : (k : ℕ) → i ≤ k → k < length row → element out k < q
  pub one : Pivots q (length row) (element row) → (k : ℕ) → i ≤ k → k < length row → (element row k * element out k) % q ≡ 1
