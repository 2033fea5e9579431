-- What a first step works out of a run of sums, and where it stores its own symbols and hands the sums of the other new nodes out.
use Rattle.std.specs.Prelude.{◌≡◌, ◌⊎◌, Bool, true, cond, List, ℕ, ◌+◌, ◌*◌, ◌-◌, ◌%◌, ◌≤◌, ◌<◌, eqb, length, get_or}
use Rattle.lists.specs.Lists.{element, member, rising}
use Rattle.lists.specs.Sums.{sum}
use Rattle.shape.specs.declared.Shape.{Shape}
use Rattle.shape.specs.Shape.{most_nodes}
use Rattle.code.specs.Code.{narrow, more_points}
use Rattle.rows.specs.Rows.{most_places, Low}
use Rattle.multipliers.specs.Multipliers.{multiplier}
use Rattle.tables.specs.Tables.{table_size}
use Rattle.filling.specs.Filling.{term}
use Rattle.classes.specs.Classes.{node, spot_at, message_size}
use Rattle.classes.specs.Steps.{place, own_pairs, exchange_at, exchanges}

-- which message of those handed out is the one to rank v from rank u: of all exchanges "by receiver then sender", or of rank u's own, receivers rising
unfoldable pub slot_of : Bool → ℕ → ℕ → ℕ → ℕ
slot_of all h u v = cond all (v * (h - 1) + place v u) (place u v)

-- how many messages there are
unfoldable pub slots : Bool → ℕ → ℕ
slots all h = cond all (h * (h - 1)) (h - 1)

-- the helpers, and their messages to rank u
pub record Helped (s : Shape) (dead helpers : List ℕ) (u : ℕ) (messages : List ℕ) : Type 0 where
  pub rises : rising 0 s.n helpers ≡ true
  pub count : length helpers ≡ s.k + 1
  pub apart : (v j : ℕ) → v < length dead → j < length helpers → get_or dead v 0 ≡ get_or helpers j 0 → ⊥
  pub rank : u < length dead
  pub long : length messages ≡ (s.k + 1) * message_size s dead
  pub below : (j x : ℕ) → j < s.k + 1 → x < message_size s dead → get_or messages (j * message_size s dead + x) 0 < narrow.modulus

-- the own pairs, and the messages of sums
pub record FirstDone (s : Shape) (dead helpers : List ℕ) (u : ℕ) (messages pairs sums : List ℕ) : Type 0 where
  pub own : pairs ≡ own_pairs narrow s dead helpers u messages
  pub sent : sums ≡ exchanges narrow s dead helpers u messages

-- ---- a run of sums

-- a row for each node
abbrev pub sent_size : ℕ
sent_size = most_nodes * most_places

-- what the first m helpers sent of a run of sums stands in their rows
pub record Gathered (helpers : List ℕ) (share first run : ℕ) (messages : List ℕ) (m : ℕ) (sent : List ℕ) : Type 0 where
  pub long : length sent ≡ sent_size
  pub each : (j t : ℕ) → j < m → t < run → get_or sent (get_or helpers j 0 * most_places + t) 0 ≡ get_or messages (j * share + (first + t)) 0

-- entry i of the column at place t of a run: what the helpers sent, each times its multiplier
unfoldable pub row_sum : List ℕ → List ℕ → ℕ → List ℕ → ℕ → ℕ
row_sum table helpers i sent t = sum (length helpers) (term table (i * length helpers) helpers most_places 0 sent t) % narrow.modulus

-- the dead nodes' entries are needed, and the one behind the n nodes'
abbrev pub Needed : Shape → List ℕ → ℕ → Type 0
Needed s dead i = (i ≡ s.n) ⊎ (member i dead ≡ true)

-- a table with the multipliers in the needed entries of a run of rank u's sums
pub record Multiplied (s : Shape) (dead helpers : List ℕ) (u first run : ℕ) (table : List ℕ) : Type 0 where
  pub long : length table ≡ table_size
  pub low : Low narrow.modulus table
  pub each : (i j t : ℕ) → Needed s dead i → j < length helpers → t < run
      → get_or table ((i * length helpers + j) * most_places + t) 0
      ≡ multiplier narrow.modulus (more_points narrow s.n (spot_at s dead u (first + t)).a (node dead u)) helpers i j

-- f 0, f 1, .. stand at their places behind a base, and nothing else has changed
pub record Spread (run base : ℕ) (at : List ℕ) (f : ℕ → ℕ) (before after : List ℕ) : Type 0 where
  pub long : length after ≡ length before
  pub hit : (t : ℕ) → t < run → get_or after (base + element at t) 0 ≡ f t
  pub rest : (z : ℕ) → ((t : ℕ) → t < run → base + element at t ≡ z → ⊥) → get_or after z 0 ≡ get_or before z 0

-- places that lie in a buffer and differ
pub record Places (run base : ℕ) (at : List ℕ) (size : ℕ) : Type 0 where
  pub long : run ≤ length at
  pub inside : (t : ℕ) → t < run → base + element at t < size
  pub apart : (t v : ℕ) → t < run → v < run → element at t ≡ element at v → t ≡ v

-- ---- symbols stored: of kind e (which of a pair, or the rank that it goes to) and of sum x

-- those with Done e x stand at their places, and nothing else has changed
pub record Put (Kind : ℕ → Type 0) (size : ℕ) (place value : ℕ → ℕ → ℕ) (Done : ℕ → ℕ → Type 0) (before after : List ℕ) : Type 0 where
  pub long : length after ≡ length before
  pub each : (e x : ℕ) → Kind e → x < size → Done e x → get_or after (place e x) 0 ≡ value e x
  pub rest : (z : ℕ) → ((e x : ℕ) → Kind e → x < size → Done e x → place e x ≡ z → ⊥) → get_or after z 0 ≡ get_or before z 0

-- the other ranks
abbrev pub Other : ℕ → ℕ → ℕ → Type 0
Other h u v = (v < h) × (v ≡ u → ⊥)

-- where symbol x of the message to rank v stands
unfoldable pub slot_place : Bool → ℕ → ℕ → ℕ → ℕ → ℕ → ℕ
slot_place all h u size v x = slot_of all h u v * size + x

-- that symbol, as a run of sums from `first` on gives it
unfoldable pub handed_sum : List ℕ → List ℕ → List ℕ → List ℕ → ℕ → ℕ → ℕ → ℕ
handed_sum dead helpers table sent first v x = row_sum table helpers (node dead v) sent (x - first)

-- that symbol: its node's entry of the column
unfoldable pub handed : Shape → List ℕ → List ℕ → ℕ → List ℕ → ℕ → ℕ → ℕ
handed s dead helpers u messages v x = exchange_at narrow s dead helpers u messages (node dead v) x

-- the sums with Done x are handed out to the other ranks
abbrev pub HandedOut : Shape → List ℕ → List ℕ → ℕ → List ℕ → Bool → (ℕ → Type 0) → List ℕ → List ℕ → Type 0
HandedOut s dead helpers u messages all Done before after =
    Put (Other (length dead) u) (message_size s dead) (slot_place all (length dead) u (message_size s dead)) (handed s dead helpers u messages) (λ v x. Done x) before after

-- the own symbols: entry i_u at the first place, and the one behind the n nodes' at the other
abbrev pub Which : ℕ → Type 0
Which e = e < 2

unfoldable pub own_entry : Shape → List ℕ → ℕ → ℕ → ℕ
own_entry s dead u e = cond (eqb e 0) (node dead u) s.n

unfoldable pub own : Shape → List ℕ → List ℕ → ℕ → List ℕ → ℕ → ℕ → ℕ
own s dead helpers u messages e x = exchange_at narrow s dead helpers u messages (own_entry s dead u e) x

-- those of the sums with Done x stand at their places
abbrev pub Owned : Shape → List ℕ → List ℕ → ℕ → List ℕ → (ℕ → ℕ → ℕ) → (ℕ → Type 0) → List ℕ → List ℕ → Type 0
Owned s dead helpers u messages place Done before after = Put Which (message_size s dead) place (own s dead helpers u messages) (λ e x. Done x) before after

-- in pairs
unfoldable pub pair_place : ℕ → ℕ → ℕ
pair_place e x = x * 2 + e
