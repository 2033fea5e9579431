-- The whole repair of one archive: every message, the wire and the nodes afterwards; and demand 3 about them.
use Rattle.std.specs.Prelude.{◌≡◌, false, cond, List, ◌++◌, ℕ, ◌+◌, ◌*◌, ◌-◌, ◌/◌, ◌%◌, ◌<◌, length, get_or, drop}
use Rattle.lists.specs.Lists.{tabulate, flat, member, position, piece}
use Rattle.shape.specs.declared.Shape.{Shape}
use Rattle.shape.specs.Shape.{size}
use Rattle.code.specs.Code.{Code}
use Rattle.code.specs.Archive.{Codeword}
use Rattle.classes.specs.Classes.{node, message_size}
use Rattle.classes.specs.Steps.{helper_message, own_pairs, exchange, other_rank, place, contents}

module _ (c : Code) (s : Shape) (dead helpers nodes : List ℕ) where
  -- the message of helper j to rank u: "equals what the helper's message call gives from that helper's N symbols"
  unfoldable pub from_helper : ℕ → ℕ → List ℕ
  from_helper u j = helper_message c s dead u (piece (size s) (get_or helpers j 0) nodes)

  -- the messages of the k+1 helpers to rank u
  unfoldable pub from_helpers : ℕ → List ℕ
  from_helpers u = flat (length helpers) (from_helper u)

  -- message j of those to rank u from the other new nodes: "equal what its first step gives from the k+1 helpers' messages to it"
  unfoldable pub from_sender : ℕ → ℕ → List ℕ
  from_sender u j = exchange c s dead helpers (other_rank u j) (from_helpers (other_rank u j)) (node dead u)

  -- "the h−1 messages to it from the other new nodes"
  unfoldable pub from_dead : ℕ → List ℕ
  from_dead u = flat (length dead - 1) (from_sender u)

  -- "every message in a lent wire buffer, in the plan's order": the helpers' by receiver then sender, then the exchanges likewise
  unfoldable pub wire : List ℕ
  wire = flat (length dead) from_helpers ++ flat (length dead) from_dead

  -- the N symbols that rank u ends with
  unfoldable pub renewed : ℕ → List ℕ
  renewed u = contents c s dead u (own_pairs c s dead helpers u (from_helpers u)) (from_dead u)

  -- symbol e % N of node e / N: "It leaves the other nodes untouched"
  unfoldable pub repaired_symbol : ℕ → ℕ
  repaired_symbol e = cond (member (e / size s) dead) (get_or (renewed (position (e / size s) dead)) (e % size s) 0) (get_or nodes e 0)

  -- all n nodes afterwards
  unfoldable pub repaired : List ℕ
  repaired = tabulate (s.n * size s) repaired_symbol

-- Demand 3: what is on the wire and what the nodes hold after a whole repair, for any symbols, and where the helpers hold a codeword's
-- (`exact`). "Its messages are the pieces of N/(h+1) symbols that fill the wire buffer, one behind the other."
pub record WholeRepair (c : Code) (s : Shape) (dead helpers nodes wire after : List ℕ) : Type 0 where
  -- "Helpers are exactly k+1 other nodes"
  pub helpers_count : length helpers ≡ s.k + 1
  pub count : length wire ≡ length dead * (s.k + length dead) * message_size s dead
  pub share : message_size s dead * (length dead + 1) ≡ size s
  -- "a helper's message on the wire equals what the helper's message call gives from that helper's N symbols"
  pub from_helper_lem : (u j : ℕ) → u < length dead → j < length helpers
      → piece (message_size s dead) (u * (s.k + 1) + j) wire ≡ helper_message c s dead u (piece (size s) (get_or helpers j 0) nodes)
  -- "A new node's messages to the others equal what its first step gives from the k+1 helpers' messages to it on the wire."
  pub from_dead_lem : (u v : ℕ) → u < length dead → v < length dead → (v ≡ u → ⊥)
      → piece (message_size s dead) (length dead * (s.k + 1) + (u * (length dead - 1) + place u v)) wire
      ≡ exchange c s dead helpers v (piece ((s.k + 1) * message_size s dead) v wire) (node dead u)
  -- "Its N symbols afterwards equal what its second step gives from its own pairs of that first step and the h−1 messages to it from the
  -- other new nodes on the wire."
  pub renewed : (u : ℕ) → u < length dead
      → piece (size s) (node dead u) after
      ≡ contents c s dead u (own_pairs c s dead helpers u (piece ((s.k + 1) * message_size s dead) u wire))
      (piece ((length dead - 1) * message_size s dead) u (drop (length dead * ((s.k + 1) * message_size s dead)) wire))
  pub long : length after ≡ s.n * size s
  pub untouched : (i : ℕ) → i < s.n → member i dead ≡ false → piece (size s) i after ≡ piece (size s) i nodes
  -- the exact symbols
  pub exact : (X : List ℕ) → Codeword c s X
      → ((j : ℕ) → j < length helpers → piece (size s) (get_or helpers j 0) nodes ≡ piece (size s) (get_or helpers j 0) X)
      → (u : ℕ) → u < length dead → piece (size s) (node dead u) after ≡ piece (size s) (node dead u) X
