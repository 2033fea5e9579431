-- What is promised of the functions that finish a first step from the kept sums.
use Rattle.std.specs.Prelude.{◌≡◌, ◌≢◌, true, List, map, ℕ, ◌+◌, ◌*◌, ◌-◌, ◌≤◌, ◌<◌, length, get_or}
use Rattle.lists.specs.Lists.{element, rising}
use Rattle.field.specs.Residues.{minus, solution}
use Rattle.column.specs.Solving.{most_entries}
use Rattle.shape.specs.declared.Shape.{Shape}
use Rattle.shape.specs.Shape.{most_nodes}
use Rattle.code.specs.Code.{narrow, more_points}
use Rattle.rows.specs.Rows.{Low}
use Rattle.classes.specs.declared.Layout.{Layout}
use Rattle.classes.specs.Classes.{node, message_size}
use Rattle.classes.specs.Layout.{Ready}
use Rattle.classes.specs.Steps.{other_rank}
use Rattle.arrival.specs.Sums.{kept_size, finished_at, finished_pairs, finished_exchanges}

-- the entries that are asked for in a column of n + 1, node i's own among them, with as many equations kept from `at` on
pub record Asked (n i : ℕ) (unknown : List ℕ) (at room : ℕ) : Type 0 where
  pub few : n ≤ most_nodes
  pub node_below : i < n
  pub up : rising 0 (n + 1) unknown ≡ true
  pub kept : at + length unknown ≤ room

-- the points of the entries asked for
abbrev pub asked : ℕ → ℕ → ℕ → List ℕ → List ℕ
asked n a i unknown = map (λ e. get_or (more_points narrow n a i) e 0) unknown

-- the right side of equation t: what the known side lacks to 0
abbrev pub lacking : List ℕ → ℕ → ℕ → ℕ
lacking sums at t = minus narrow.modulus 0 (get_or sums (at + t) 0)

-- a column with the solution of the kept equations at the entries asked for
pub record Answered (n a i : ℕ) (unknown : List ℕ) (at : ℕ) (sums column : List ℕ) : Type 0 where
  pub long : length column ≡ most_entries
  pub low : Low narrow.modulus column
  pub each : (j : ℕ) → j < length unknown → element column (element unknown j) ≡ get_or (solution narrow.modulus (asked n a i unknown) (lacking sums at)) j 0

-- a column's entries of the other dead nodes handed out as symbol x of each outgoing message, and no other symbol of these
pub record SentAt (dead : List ℕ) (u share x : ℕ) (count : ℕ) (column before after : List ℕ) : Type 0 where
  pub long : length after ≡ length before
  pub sent : (j : ℕ) → j < count → get_or after (j * share + x) 0 ≡ element column (node dead (other_rank u j))
  pub other : (j y : ℕ) → y < share → y ≢ x → get_or after (j * share + y) 0 ≡ get_or before (j * share + y) 0

-- a column's own entries as pair x, and no other pair
pub record PairAt (i n x : ℕ) (column before after : List ℕ) : Type 0 where
  pub long : length after ≡ length before
  pub first : get_or after (x * 2) 0 ≡ element column i
  pub second : get_or after (x * 2 + 1) 0 ≡ element column n
  pub other : (y : ℕ) → y ≢ x → (get_or after (y * 2) 0 ≡ get_or before (y * 2) 0) × (get_or after (y * 2 + 1) 0 ≡ get_or before (y * 2 + 1) 0)

-- what is known where finishing is not turned back: a rank, the helpers, and the lengths of the sums and of both buffers
pub record Finishable (dead helpers : List ℕ) (g : Layout) (u : ℕ) (sums pairs out : List ℕ) : Type 0 where
  pub ready : Ready dead g
  pub rank : u < length dead
  pub rises : rising 0 g.shape.n helpers ≡ true
  pub count : length helpers ≡ g.shape.k + 1
  pub apart : (v j : ℕ) → v < length dead → j < length helpers → get_or dead v 0 ≡ get_or helpers j 0 → ⊥
  pub sums_long : length sums ≡ kept_size g.shape dead
  pub pairs_long : length pairs ≡ 2 * message_size g.shape dead
  pub out_long : length out ≡ (length dead - 1) * message_size g.shape dead

-- the first x sums are finished
pub record FinishedTo (s : Shape) (dead helpers : List ℕ) (u : ℕ) (sums : List ℕ) (x : ℕ) (pairs pairs_now out out_now : List ℕ) : Type 0 where
  pub pairs_same : length pairs_now ≡ length pairs
  pub out_same : length out_now ≡ length out
  pub first : (y : ℕ) → y < x → get_or pairs_now (y * 2) 0 ≡ finished_at narrow s dead helpers u sums (node dead u) y
  pub second : (y : ℕ) → y < x → get_or pairs_now (y * 2 + 1) 0 ≡ finished_at narrow s dead helpers u sums s.n y
  pub sent : (j y : ℕ) → j < length dead - 1 → y < x → get_or out_now (j * message_size s dead + y) 0 ≡ finished_at narrow s dead helpers u sums (node dead (other_rank u j)) y

-- the own pairs, and the outgoing messages
pub record Finished (s : Shape) (dead helpers : List ℕ) (u : ℕ) (sums pairs out : List ℕ) : Type 0 where
  pub own : pairs ≡ finished_pairs narrow s dead helpers u sums
  pub sent : out ≡ finished_exchanges narrow s dead helpers u sums
