-- What is promised of the functions that add a message to the kept sums.
use Rattle.std.specs.Prelude.{◌≡◌, List, ℕ, ◌+◌, ◌*◌, ◌%◌, ◌<◌, length, get_or}
use Rattle.lists.specs.Lists.{element}
use Rattle.lists.specs.Digits.{bit}
use Rattle.column.specs.Solving.{most_entries, power_of}
use Rattle.code.specs.Code.{narrow, point}
use Rattle.rows.specs.Rows.{Low}
use Rattle.classes.specs.declared.Layout.{Layout}
use Rattle.classes.specs.Classes.{message_size}
use Rattle.classes.specs.Layout.{Ready}
use Rattle.arrival.specs.Sums.{kept_size}

-- the first r powers of a node's two points, in two rows: at every a those of its point there, by its bit of a
pub record BothPowers (r i : ℕ) (powers : List ℕ) : Type 0 where
  pub long : length powers ≡ 2 * most_entries
  pub low : Low narrow.modulus powers
  pub each : (a t : ℕ) → t < r → element powers (bit i a * most_entries + t) ≡ power_of narrow.modulus (point narrow a i) t

-- what stands at place `at` + t once a symbol, times factor t from `from` on, is added there
unfoldable pub summed : ℕ → List ℕ → ℕ → ℕ → List ℕ → ℕ → ℕ
summed symbol factors from at sums t = (get_or sums (at + t) 0 + symbol * get_or factors (from + t) 0) % narrow.modulus

-- what is known where hearing is not turned back: a rank, a helper, and the lengths of its message and of the sums
pub record Hearable (dead : List ℕ) (g : Layout) (u helper : ℕ) (message sums : List ℕ) : Type 0 where
  pub ready : Ready dead g
  pub rank : u < length dead
  pub node : helper < g.shape.n
  pub message_long : length message ≡ message_size g.shape dead
  pub sums_long : length sums ≡ kept_size g.shape dead
