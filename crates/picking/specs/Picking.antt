-- What is picked from the multipliers of few a, by patterns.
use Rattle.std.specs.Prelude.{◌≡◌, Bool, true, cond, List, ℕ, ◌+◌, ◌-◌, ◌*◌, ◌^◌, ◌<◌, ◌≤◌, length, get_or, eqb}
use Rattle.lists.specs.Lists.{rising}
use Rattle.lists.specs.Digits.{bit}
use Rattle.shape.specs.Shape.{most_nodes}
use Rattle.rows.specs.Rows.{most_places, Low}
use Rattle.tables.specs.Tables.{Marks}
use Rattle.patterns.specs.Patterns.{pattern, patterns, Represented}

-- of the patterns up to `last`, the one to look under: the opposite one where a bit is 1
unfoldable pub looked_up : ℕ → ℕ → ℕ → ℕ
looked_up b p last = cond (eqb b 0) p (last - p)

-- that for the bit of a node at a, a + 1, ..
unfoldable pub looked_at : ℕ → ℕ → List ℕ → ℕ → ℕ → ℕ
looked_at a node picks last t = looked_up (bit node (a + t)) (get_or picks t 0) last

-- the elements of a row of them for each node
abbrev pub looked_size : ℕ
looked_size = most_nodes * most_places

-- the rows of the first m listed nodes
pub record LookedUp (a run : ℕ) (list picks : List ℕ) (last m : ℕ) (looked : List ℕ) : Type 0 where
  pub long : length looked ≡ looked_size
  pub low : Low most_places looked
  pub each : (j t : ℕ) → j < m → t < run → get_or looked (j * most_places + t) 0 ≡ looked_at a (get_or list j 0) picks last t

-- the element that a row of a table has under each pattern of a row
unfoldable pub picked : List ℕ → ℕ → List ℕ → ℕ → ℕ → ℕ
picked looked row source at t = get_or source (at + get_or looked (row + t) 0) 0

-- the patterns of a run of places, and the table to pick from
pub record Pickable (n m a run : ℕ) (list : List ℕ) (marked : List Bool) (picks : List ℕ) (last : ℕ) (source : List ℕ) : Type 0 where
  pub high : n ≤ most_nodes
  pub inside : m ≤ n
  pub low : a + run ≤ 2 ^ n
  pub up : rising 0 n list ≡ true
  pub marks : Marks n list marked
  pub picks_are : (t : ℕ) → t < run → get_or picks t 0 ≡ pattern marked (a + t) n
  pub last_is : last + 1 ≡ patterns marked n
  pub held : Represented n marked list m source
