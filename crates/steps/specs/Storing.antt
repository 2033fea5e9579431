-- What the loops over a rank's sums store in the N symbols of a node.
use Rattle.std.specs.Prelude.{◌≡◌, List, ℕ, ◌+◌, ◌*◌, ◌-◌, ◌<◌, length, get_or}
use Rattle.field.specs.Residues.{minus}
use Rattle.shape.specs.declared.Shape.{Shape}
use Rattle.shape.specs.Shape.{size}
use Rattle.rows.specs.Rows.{Low}
use Rattle.code.specs.Code.{Code}
use Rattle.classes.specs.Classes.{rank_class, turning_rank, Sum, sum_at, sum_place, message_size}
use Rattle.classes.specs.Steps.{place, contents}

-- the symbol at the first (which = 0) or other (1) place of the sum of batch b and a
unfoldable pub sum_symbol : Shape → List ℕ → ℕ → ℕ → ℕ → ℕ → List ℕ → ℕ
sum_symbol s dead u which b a symbols = get_or symbols (sum_place s dead u which b a) 0

-- rank u's own pairs stand at the places of its sums
pub record Paired (s : Shape) (dead : List ℕ) (u : ℕ) (pairs symbols : List ℕ) : Type 0 where
  pub long : length symbols ≡ size s
  pub one : (b a : ℕ) → Sum s dead u b a → sum_symbol s dead u 0 b a symbols ≡ get_or pairs (sum_at s dead u b a * 2 + 0) 0
  pub other : (b a : ℕ) → Sum s dead u b a → sum_symbol s dead u 1 b a symbols ≡ get_or pairs (sum_at s dead u b a * 2 + 1) 0

-- and all pairs are below q
pub record OwnLow (q : ℕ) (s : Shape) (dead : List ℕ) (u : ℕ) (symbols : List ℕ) : Type 0 where
  pub pairs : List ℕ
  pub paired : Paired s dead u pairs symbols
  pub low : Low q pairs

-- the symbols at the places `which` of rank u's sums are below q
pub record LowAt (q : ℕ) (s : Shape) (dead : List ℕ) (u which : ℕ) (symbols : List ℕ) : Type 0 where
  pub each : (b a : ℕ) → Sum s dead u b a → sum_symbol s dead u which b a symbols < q

-- what rank u sent of its sum x, of the messages that rank v received
unfoldable pub sent_by : Shape → List ℕ → ℕ → List ℕ → ℕ → ℕ → ℕ
sent_by s dead v received u x = get_or received (place v u * message_size s dead + x) 0

-- at the places `which` of rank u's sums stands each sum less the symbol at its other place, and elsewhere what stood there
pub record Crossed (c : Code) (s : Shape) (dead : List ℕ) (u which : ℕ) (sums : ℕ → ℕ) (before after : List ℕ) : Type 0 where
  pub long : length after ≡ length before
  pub each : (b a : ℕ) → Sum s dead u b a
      → sum_symbol s dead u which b a after ≡ minus c.modulus (sums (sum_at s dead u b a)) (sum_symbol s dead u (1 - which) b a before)
  pub rest : (x : ℕ) → ((b a : ℕ) → Sum s dead u b a → sum_place s dead u which b a ≡ x → ⊥) → get_or after x 0 ≡ get_or before x 0

-- what rank v first does: nothing where its class is 0, else it gets class 0 of layer 0 from the rank that turns its class
pub record Begun (c : Code) (s : Shape) (dead : List ℕ) (v : ℕ) (received before after : List ℕ) (turning : ℕ) : Type 0 where
  pub own : rank_class dead v ≡ 0 → (turning ≡ length dead) × (after ≡ before)
  pub turned : (rank_class dead v ≡ 0 → ⊥) → (turning ≡ turning_rank dead (rank_class dead v)) × Crossed c s dead (turning_rank dead (rank_class dead v)) 0 (sent_by s dead v received (turning_rank dead (rank_class dead v))) before after

-- the second step in place: from its own pairs at their places, and the messages received, all N symbols of rank v
pub record Recovers (c : Code) (s : Shape) (dead : List ℕ) (v : ℕ) (received before after : List ℕ) : Type 0 where
  pub whole : (pairs : List ℕ) → Paired s dead v pairs before → after ≡ contents c s dead v pairs received
