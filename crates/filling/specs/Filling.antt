-- What is promised of the functions that fill in the nodes that are not listed, a run of places at a time.
use Rattle.std.specs.Prelude.{◌≡◌, ◌⊎◌, true, false, List, ℕ, ◌+◌, ◌*◌, ◌/◌, ◌%◌, ◌^◌, ◌<◌, ◌≤◌, length, get_or}
use Rattle.lists.specs.Lists.{member, rising}
use Rattle.lists.specs.Sums.{sum}
use Rattle.column.specs.Column.{completed}
use Rattle.shape.specs.Shape.{most_nodes}
use Rattle.rows.specs.Rows.{most_places, Low}
use Rattle.code.specs.Code.{narrow, points}
use Rattle.tables.specs.Tables.{Table}

-- what source row j has t places behind a place, times its multiplier in a row of a table
unfoldable pub term : List ℕ → ℕ → List ℕ → ℕ → ℕ → List ℕ → ℕ → ℕ → ℕ
term table first rows each place symbols t j = get_or table ((first + j) * most_places + t) 0 * get_or symbols (get_or rows j 0 * each + place + t) 0

-- rows of `each` symbols, of which those named in `rows` are below the modulus at `run` places
pub record Summable (run each place : ℕ) (rows table : List ℕ) (first : ℕ) (symbols : List ℕ) : Type 0 where
  pub few : run ≤ most_places
  pub short : length rows ≤ most_nodes
  pub low : Low narrow.modulus table
  pub room : (first + length rows) * most_places ≤ length table
  pub inside : (j : ℕ) → j < length rows → get_or rows j 0 * each + place + run ≤ length symbols
  pub small : (j t : ℕ) → j < length rows → t < run → get_or symbols (get_or rows j 0 * each + place + t) 0 < narrow.modulus

-- the sums of the first m rows' terms
pub record Summed (run each place : ℕ) (rows table : List ℕ) (first : ℕ) (symbols : List ℕ) (m : ℕ) (sums : List ℕ) : Type 0 where
  pub long : length sums ≡ most_places
  pub each_sum : (t : ℕ) → t < run → get_or sums t 0 ≡ sum m (term table first rows each place symbols t)

-- what listed node j holds at a place
unfoldable pub listed_at : ℕ → List ℕ → List ℕ → ℕ → ℕ → ℕ
listed_at each list nodes place j = get_or nodes (get_or list j 0 * each + place) 0

-- n nodes of `each` symbols, of which the listed hold symbols below the modulus
pub record Fillable (n each : ℕ) (list : List ℕ) (nodes : List ℕ) : Type 0 where
  pub high : n ≤ most_nodes
  pub up : rising 0 n list ≡ true
  pub long : length nodes ≡ n * each
  pub small : (j p : ℕ) → j < length list → p < each → listed_at each list nodes p j < narrow.modulus

-- at `run` places the nodes below m that are not listed hold what completes the column, and nothing else has changed
pub record FilledRun (n each place run : ℕ) (list table : List ℕ) (m : ℕ) (before after : List ℕ) : Type 0 where
  pub long : length after ≡ length before
  pub there : (a : ℕ) → Table n a run list n table → (i t : ℕ) → i < m → member i list ≡ false → t < run
      → get_or after (i * each + (place + t)) 0 ≡ get_or (completed narrow.modulus (points narrow n (a + t)) list (listed_at each list before (place + t))) i 0
  pub kept : (i p : ℕ) → member i list ≡ true → p < each → get_or after (i * each + p) 0 ≡ get_or before (i * each + p) 0
  pub others : (i p : ℕ) → p < each → (p < place) ⊎ (place + run ≤ p) → get_or after (i * each + p) 0 ≡ get_or before (i * each + p) 0

-- at the places p with Done p the nodes that are not listed hold what completes the column, and nothing else has changed
pub record Filled (n each : ℕ) (list : List ℕ) (Done : ℕ → Type 0) (before after : List ℕ) : Type 0 where
  pub long : length after ≡ length before
  pub there : (i p : ℕ) → i < n → member i list ≡ false → p < each → Done p
      → get_or after (i * each + p) 0 ≡ get_or (completed narrow.modulus (points narrow n (p % 2 ^ n)) list (listed_at each list before p)) i 0
  pub kept : (i p : ℕ) → member i list ≡ true → p < each → get_or after (i * each + p) 0 ≡ get_or before (i * each + p) 0
  pub others : (i p : ℕ) → p < each → (Done p → ⊥) → get_or after (i * each + p) 0 ≡ get_or before (i * each + p) 0

-- the places of a run
abbrev pub InRun : ℕ → ℕ → ℕ → Type 0
InRun place run p = (place ≤ p) × (p < place + run)

-- the places of the first m layers, of `size` places each, at a, a + 1, ..
abbrev pub InLayers : ℕ → ℕ → ℕ → ℕ → ℕ → Type 0
InLayers size a run m p = (a ≤ p % size) × (p % size < a + run) × (p / size < m)

-- the places of all layers below a
abbrev pub Below : ℕ → ℕ → ℕ → Type 0
Below size a p = p % size < a

abbrev pub Everywhere : ℕ → Type 0
Everywhere p = Unit {0}
