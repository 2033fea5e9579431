-- What is promised of the functions that work out the multipliers of a run of places. Row i of a table has most_places elements.
-- The rows are those of any columns of points P 0, P 1, ..: the nodes' points at some a, or with one more behind them, as a first step has it.
use Rattle.std.specs.Prelude.{◌≡◌, Bool, false, not, List, ℕ, ◌+◌, ◌*◌, ◌-◌, ◌<◌, length, get_or}
use Rattle.lists.specs.Lists.{member}
use Rattle.column.specs.Column.{Points}
use Rattle.column.specs.Solving.{most_entries}
use Rattle.shape.specs.Shape.{most_nodes}
use Rattle.rows.specs.Rows.{most_places, Low}
use Rattle.code.specs.Code.{narrow, point, points, more_points}
use Rattle.multipliers.specs.Multipliers.{differences, multiplier}

-- how many flags there are, of which the first are the entries'
abbrev pub flags : ℕ
flags = 16

-- the elements of the rows of points of all entries, and of the rows of all multipliers
abbrev pub points_size : ℕ
points_size = most_entries * most_places

abbrev pub table_size : ℕ
table_size = most_nodes * most_nodes * most_places

-- the point of a node at the a of place t, and its opposite
unfoldable pub point_of : (ℕ → ℕ) → ℕ → ℕ → ℕ
point_of f node t = point narrow (f t) node

unfoldable pub opposite_of : (ℕ → ℕ) → ℕ → ℕ → ℕ
opposite_of f node t = narrow.modulus - point narrow (f t) node

-- the points of n nodes at the a of place t; and those of a first step's entries, the opposite of node i's behind them
abbrev pub node_points : ℕ → (ℕ → ℕ) → ℕ → List ℕ
node_points n f t = points narrow n (f t)

abbrev pub entry_points : ℕ → ℕ → (ℕ → ℕ) → ℕ → List ℕ
entry_points n i f t = more_points narrow n (f t) i

-- row i holds the points of entry i, at place 0, 1, ..
pub record PointRows (n : ℕ) (P : ℕ → List ℕ) (run : ℕ) (rows : List ℕ) : Type 0 where
  pub long : length rows ≡ points_size
  pub low : Low narrow.modulus rows
  pub each : (i t : ℕ) → i < n → t < run → get_or rows (i * most_places + t) 0 ≡ get_or (P t) i 0

-- at each place there are n points, and they differ
pub record Columns (n : ℕ) (P : ℕ → List ℕ) : Type 0 where
  pub long : (t : ℕ) → length (P t) ≡ n
  pub apart : (t : ℕ) → Points narrow.modulus (P t)

-- entry i says whether node i is listed
pub record Marks (n : ℕ) (list : List ℕ) (marked : List Bool) : Type 0 where
  pub long : length marked ≡ flags
  pub each : (i : ℕ) → i < n → get_or marked i false ≡ member i list

-- entry i says whether node i is not listed, and entry n is false
pub record Idle (n : ℕ) (list : List ℕ) (idle : List Bool) : Type 0 where
  pub long : length idle ≡ flags
  pub each : (i : ℕ) → i < n → get_or idle i false ≡ not (member i list)
  pub behind : get_or idle n false ≡ false

-- a row of products of differences: of the point of entry x less those of the entries that are neither listed nor i
pub record DifferenceRow (n run : ℕ) (rows : List ℕ) (marked : List Bool) (i x m : ℕ) (row : List ℕ) : Type 0 where
  pub long : length row ≡ most_places
  pub low : Low narrow.modulus row
  pub each : (P : ℕ → List ℕ) (list : List ℕ) → PointRows n P run rows → Marks n list marked → (t : ℕ) → t < run
      → get_or row t 0 ≡ differences narrow.modulus (P t) list i (get_or (P t) x 0) m

-- row i * k + j of a table holds the multipliers of listed entry j in entry i, at place 0, 1, ..
pub record RowOver (P : ℕ → List ℕ) (run : ℕ) (list table : List ℕ) (i j : ℕ) : Type 0 where
  pub each : (t : ℕ) → t < run → get_or table ((i * length list + j) * most_places + t) 0 ≡ multiplier narrow.modulus (P t) list i j

-- the rows of the first m listed entries in entry i were made, and those of the entries before i kept
pub record RowsOver (P : ℕ → List ℕ) (run : ℕ) (list : List ℕ) (i m : ℕ) (before after : List ℕ) : Type 0 where
  pub low : Low narrow.modulus before → Low narrow.modulus after
  pub kept : (e : ℕ) → e < i * length list * most_places → get_or after e 0 ≡ get_or before e 0
  pub made : (j : ℕ) → j < m → RowOver P run list after i j

-- a table with the multipliers of each entry below m that is not skipped
pub record TableOver (P : ℕ → List ℕ) (run : ℕ) (list : List ℕ) (skipped : ℕ → Bool) (m : ℕ) (table : List ℕ) : Type 0 where
  pub long : length table ≡ table_size
  pub low : Low narrow.modulus table
  pub each : (i j : ℕ) → i < m → skipped i ≡ false → j < length list → RowOver P run list table i j

-- of n nodes, at a = f 0, f 1, ..
abbrev pub MultiplierRow : ℕ → (ℕ → ℕ) → ℕ → List ℕ → List ℕ → ℕ → ℕ → Type 0
MultiplierRow n f run list table i j = RowOver (node_points n f) run list table i j

abbrev pub NodeRows : ℕ → (ℕ → ℕ) → ℕ → List ℕ → ℕ → ℕ → List ℕ → List ℕ → Type 0
NodeRows n f run list i m before after = RowsOver (node_points n f) run list i m before after

abbrev pub TableOf : ℕ → (ℕ → ℕ) → ℕ → List ℕ → ℕ → List ℕ → Type 0
TableOf n f run list m table = TableOver (node_points n f) run list (λ i. member i list) m table

-- at a, a + 1, ..
abbrev pub Table : ℕ → ℕ → ℕ → List ℕ → ℕ → List ℕ → Type 0
Table n a run list m table = TableOf n (◌+◌ a) run list m table
