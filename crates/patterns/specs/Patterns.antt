-- A multiplier reads the points of its listed node and of the nodes that are not listed, so that the multipliers of few a serve all.
use Rattle.std.specs.Prelude.{◌≡◌, Bool, true, false, cond, List, ℕ, zero, suc, ◌+◌, ◌*◌, ◌^◌, ◌<◌, ◌≤◌, get_or}
use Rattle.lists.specs.Digits.{bit}
use Rattle.rows.specs.Rows.{most_places}
use Rattle.tables.specs.Tables.{TableOf}

-- the bits of a at the nodes below m that are not marked, one behind the other
unfoldable pub pattern : List Bool → ℕ → ℕ → ℕ
pattern marked a zero = 0
pattern marked a (suc m) = cond (get_or marked m false) (pattern marked a m) (2 * pattern marked a m + bit m a)

-- how many patterns there are
unfoldable pub patterns : List Bool → ℕ → ℕ
patterns marked zero = 1
patterns marked (suc m) = cond (get_or marked m false) (patterns marked m) (2 * patterns marked m)

-- each pattern and one bit more, at a, a + 1, ..
unfoldable pub lengthened : ℕ → ℕ → List ℕ → ℕ → ℕ
lengthened a node row t = 2 * get_or row t 0 + bit node (a + t)

-- the highest bits of a number whose pattern is p and whose marked bits are 0: those from i on, made; `rest` is what is left of p
pub record Making (n : ℕ) (marked : List Bool) (p i rest out : ℕ) : Type 0 where
  pub small : (out + 1) * 2 ^ i ≤ 2 ^ n
  pub left : (a : ℕ) → p ≡ pattern marked a n → rest ≡ pattern marked a i
  pub free : (a e : ℕ) → p ≡ pattern marked a n → i + e < n → get_or marked (i + e) false ≡ false → bit e out ≡ bit (i + e) a
  pub fixed : (e : ℕ) → i + e < n → get_or marked (i + e) false ≡ true → bit e out ≡ 0

-- a number has the bits of pattern p at the nodes that are not marked, and 0 at those that are
pub record Stands (n : ℕ) (marked : List Bool) (p out : ℕ) : Type 0 where
  pub free : (a e : ℕ) → p ≡ pattern marked a n → e < n → get_or marked e false ≡ false → bit e out ≡ bit e a
  pub fixed : (e : ℕ) → e < n → get_or marked e false ≡ true → bit e out ≡ 0

-- a table with the multipliers of such a number for each pattern
pub record Represented (n : ℕ) (marked : List Bool) (list : List ℕ) (m : ℕ) (table : List ℕ) : Type 0 where
  pub few : patterns marked n ≤ most_places
  pub each : ℕ → ℕ
  pub stands : (p : ℕ) → p < patterns marked n → Stands n marked p (each p)
  pub held : TableOf n each (patterns marked n) list m table
