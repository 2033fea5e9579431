-- What the parts of a whole repair leave on the wire and in the nodes.
use Rattle.std.specs.Prelude.{◌≡◌, true, cond, List, ℕ, ◌+◌, ◌*◌, ◌-◌, ◌≤◌, ◌<◌, eqb, length, get_or, take, drop}
use Rattle.lists.specs.Lists.{element, flat, piece}
use Rattle.shape.specs.declared.Shape.{Shape}
use Rattle.shape.specs.Shape.{size}
use Rattle.rows.specs.Rows.{Low}
use Rattle.code.specs.Code.{narrow}
use Rattle.classes.specs.Classes.{node, spot_at, message_size}
use Rattle.classes.specs.Steps.{solved, own_pairs, contents}
use Rattle.classes.specs.Whole.{from_helpers}
use Rattle.steps.specs.Storing.{Paired, OwnLow}
use Rattle.solving.specs.Solving.{slot_of, Helped, HandedOut, Owned}

-- how many symbols the helpers' messages have: to one rank, and to all
unfoldable pub inward : Shape → List ℕ → ℕ
inward s dead = (s.k + 1) * message_size s dead

unfoldable pub inwards : Shape → List ℕ → ℕ
inwards s dead = length dead * inward s dead

-- the messages of the helpers to rank u
unfoldable pub to_rank : Shape → List ℕ → ℕ → List ℕ → List ℕ
to_rank s dead u wire = piece (inward s dead) u wire

-- the helpers' messages to every rank are the first on the wire
pub record Messaged (s : Shape) (dead helpers nodes before after : List ℕ) : Type 0 where
  pub long : length after ≡ length before
  pub head : take (inwards s dead) after ≡ flat (length dead) (from_helpers narrow s dead helpers nodes)

-- a wire that has room for all messages, and the helpers' messages on it
pub record Wired (s : Shape) (dead helpers : List ℕ) (wire : List ℕ) : Type 0 where
  pub long : length wire ≡ inwards s dead + length dead * (length dead - 1) * message_size s dead
  pub helped : (u : ℕ) → u < length dead → Helped s dead helpers u (to_rank s dead u wire)

-- what rank u's first step puts on the wire behind the helpers' messages, and what it leaves as it was
pub record Sent (s : Shape) (dead helpers : List ℕ) (u : ℕ) (before after : List ℕ) : Type 0 where
  pub long : length after ≡ length before
  pub head : take (inwards s dead) after ≡ take (inwards s dead) before
  pub each : (v y : ℕ) → v < length dead → (v ≡ u → ⊥) → y < message_size s dead
      → get_or after (inwards s dead + (slot_of true (length dead) u v * message_size s dead + y)) 0
      ≡ get_or (solved narrow s dead helpers u (to_rank s dead u before) y) (node dead v) 0
  pub rest : (z : ℕ) → ((v y : ℕ) → v < length dead → (v ≡ u → ⊥) → y < message_size s dead → slot_of true (length dead) u v * message_size s dead + y ≡ z → ⊥)
      → get_or after (inwards s dead + z) 0 ≡ get_or before (inwards s dead + z) 0

-- where the own symbol at the first (0) or the other (1) place of sum x stands in a node
unfoldable pub own_place : Shape → List ℕ → ℕ → ℕ → ℕ → ℕ
own_place s dead u e x = cond (eqb e 0) (spot_at s dead u x).one (spot_at s dead u x).other

-- the places of a run of sums behind a row
pub record Offsets (s : Shape) (dead : List ℕ) (u first run row : ℕ) (ones others : List ℕ) : Type 0 where
  pub ones_long : run ≤ length ones
  pub others_long : run ≤ length others
  pub one : (t : ℕ) → t < run → row + element ones t ≡ own_place s dead u 0 (first + t)
  pub other : (t : ℕ) → t < run → row + element others t ≡ own_place s dead u 1 (first + t)

-- rank u's first step at the sums with Done x
pub record OnWire (s : Shape) (dead helpers : List ℕ) (u : ℕ) (Done : ℕ → Type 0) (part part_after wire wire_after : List ℕ) : Type 0 where
  pub own : Owned s dead helpers u (to_rank s dead u wire) (own_place s dead u) Done part part_after
  pub long : length wire_after ≡ length wire
  pub head : take (inwards s dead) wire_after ≡ take (inwards s dead) wire
  pub sent : HandedOut s dead helpers u (to_rank s dead u wire) true Done (drop (inwards s dead) wire) (drop (inwards s dead) wire_after)

-- rank u's first step: its own pairs at their places in its node, its sums on the wire
pub record FirstOnWire (s : Shape) (dead helpers : List ℕ) (u : ℕ) (part before after : List ℕ) : Type 0 where
  pub own : Paired s dead u (own_pairs narrow s dead helpers u (to_rank s dead u before)) part
  pub sent : Sent s dead helpers u before after

-- every rank's first step
pub record Exchanged (s : Shape) (dead helpers : List ℕ) (nodes nodes_after wire wire_after : List ℕ) : Type 0 where
  pub nodes_long : length nodes_after ≡ length nodes
  pub own : (u : ℕ) → u < length dead → Paired s dead u (own_pairs narrow s dead helpers u (to_rank s dead u wire)) (piece (size s) (node dead u) nodes_after)
  pub kept : (i : ℕ) → i < s.n → ((u : ℕ) → u < length dead → node dead u ≡ i → ⊥) → piece (size s) i nodes_after ≡ piece (size s) i nodes
  pub long : length wire_after ≡ length wire
  pub head : take (inwards s dead) wire_after ≡ take (inwards s dead) wire
  pub each : (u v y : ℕ) → u < length dead → v < length dead → (v ≡ u → ⊥) → y < message_size s dead
      → get_or wire_after (inwards s dead + (slot_of true (length dead) u v * message_size s dead + y)) 0
      ≡ get_or (solved narrow s dead helpers u (to_rank s dead u wire) y) (node dead v) 0

-- the messages to rank u from the other new nodes
unfoldable pub from_others : Shape → List ℕ → ℕ → List ℕ → List ℕ
from_others s dead u wire = piece ((length dead - 1) * message_size s dead) u (drop (inwards s dead) wire)

-- every rank's own pairs stand at their places in its node, and they and the messages to it from the others are below the modulus
pub record Renewable (s : Shape) (dead nodes wire : List ℕ) : Type 0 where
  pub own : (u : ℕ) → u < length dead → OwnLow narrow.modulus s dead u (piece (size s) (node dead u) nodes)
  pub received : (u : ℕ) → u < length dead → Low narrow.modulus (from_others s dead u wire)

-- every rank's second step
pub record Renewed (s : Shape) (dead : List ℕ) (nodes nodes_after wire : List ℕ) : Type 0 where
  pub long : length nodes_after ≡ length nodes
  pub new : (u : ℕ) → u < length dead → (pairs : List ℕ) → Paired s dead u pairs (piece (size s) (node dead u) nodes)
      → piece (size s) (node dead u) nodes_after ≡ contents narrow s dead u pairs (from_others s dead u wire)
  pub kept : (i : ℕ) → i < s.n → ((u : ℕ) → u < length dead → node dead u ≡ i → ⊥) → piece (size s) i nodes_after ≡ piece (size s) i nodes
