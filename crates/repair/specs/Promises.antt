-- What is promised of the four calls: the number, both ways, and each lent buffer when the call returns.
use Rattle.std.specs.Prelude.{◌≡◌, List, ℕ, ◌+◌, ◌*◌, ◌-◌, ◌<◌, length, get_or, drop}
use Rattle.lists.specs.Lists.{position, piece}
use Rattle.shape.specs.declared.Shape.{Shape}
use Rattle.shape.specs.Shape.{size}
use Rattle.shape.specs.Refusals.{answer_number, afterwards, Answer}
use Rattle.code.specs.Code.{narrow}
use Rattle.classes.specs.Classes.{node, message_size}
use Rattle.classes.specs.Whole as Whole
use Rattle.classes.specs.Whole.{repaired, WholeRepair}
use Rattle.classes.specs.Steps.{place, helper_message, own_pairs, exchanges, contents}
use Rattle.judging.specs.Refusals.{message_refusal, first_step_refusal, second_step_refusal, whole_refusal}

-- "A helper makes its message": the message to the new node, from the helper's N symbols
pub record HelperMessage (s : Shape) (dead helpers : List ℕ) (helper new : ℕ) (symbols before after : List ℕ) (answer : Answer) : Type 0 where
  pub number : answer_number answer ≡ message_refusal narrow s dead helpers helper new symbols (length before)
  pub message : after
      ≡ afterwards (message_refusal narrow s dead helpers helper new symbols (length before)) before
      (helper_message narrow s dead (position new dead) symbols)

-- "own pairs and the h−1 messages received (senders rising) give all N symbols"
pub record SecondStep (s : Shape) (dead helpers : List ℕ) (new : ℕ) (pairs received before after : List ℕ) (answer : Answer) : Type 0 where
  pub number : answer_number answer ≡ second_step_refusal narrow s dead helpers new pairs received (length before)
  pub symbols : after
      ≡ afterwards (second_step_refusal narrow s dead helpers new pairs received (length before)) before
      (contents narrow s dead (position new dead) pairs received)

-- "It gives the own pairs .. and for each other dead node (rising) its message of sums"
pub record FirstStep (s : Shape) (dead helpers : List ℕ) (new : ℕ) (messages pairs sums pairs_after sums_after : List ℕ) (answer : Answer) : Type 0 where
  pub number : answer_number answer ≡ first_step_refusal narrow s dead helpers new messages (length pairs) (length sums)
  pub own : pairs_after
      ≡ afterwards (first_step_refusal narrow s dead helpers new messages (length pairs) (length sums)) pairs
      (own_pairs narrow s dead helpers (position new dead) messages)
  pub sent : sums_after
      ≡ afterwards (first_step_refusal narrow s dead helpers new messages (length pairs) (length sums)) sums
      (exchanges narrow s dead helpers (position new dead) messages)

-- the messages of one piece of the wire each: what depends on what, against any other accepted repair of the same shape, dead nodes and helpers
pub record Alike (s : Shape) (dead helpers nodes wire after : List ℕ) : Type 0 where
  -- a helper that holds the same sends the same
  pub helper : (nodes' wire' after' : List ℕ) → WholeRepair narrow s dead helpers nodes' wire' after' → (u j : ℕ) → u < length dead → j < length helpers
      → piece (size s) (get_or helpers j 0) nodes ≡ piece (size s) (get_or helpers j 0) nodes'
      → piece (message_size s dead) (u * (s.k + 1) + j) wire ≡ piece (message_size s dead) (u * (s.k + 1) + j) wire'
  -- a new node that gets the same from the helpers sends the same
  pub sender : (nodes' wire' after' : List ℕ) → WholeRepair narrow s dead helpers nodes' wire' after' → (u v : ℕ) → u < length dead → v < length dead → (v ≡ u → ⊥)
      → piece ((s.k + 1) * message_size s dead) v wire ≡ piece ((s.k + 1) * message_size s dead) v wire'
      → piece (message_size s dead) (length dead * (s.k + 1) + (u * (length dead - 1) + place u v)) wire
      ≡ piece (message_size s dead) (length dead * (s.k + 1) + (u * (length dead - 1) + place u v)) wire'
  -- a new node that gets the same from all ends the same
  pub new : (nodes' wire' after' : List ℕ) → WholeRepair narrow s dead helpers nodes' wire' after' → (u : ℕ) → u < length dead
      → piece ((s.k + 1) * message_size s dead) u wire ≡ piece ((s.k + 1) * message_size s dead) u wire'
      → piece ((length dead - 1) * message_size s dead) u (drop (length dead * ((s.k + 1) * message_size s dead)) wire)
      ≡ piece ((length dead - 1) * message_size s dead) u (drop (length dead * ((s.k + 1) * message_size s dead)) wire')
      → piece (size s) (node dead u) after ≡ piece (size s) (node dead u) after'

-- Demand 3: a whole repair. The nodes at entry may hold anything in the dead and the unlisted: no definition reads them.
pub record Repaired (s : Shape) (dead helpers nodes nodes_after wire wire_after : List ℕ) (answer : Answer) : Type 0 where
  pub number : answer_number answer ≡ whole_refusal narrow s dead helpers nodes (length wire)
  pub sent : wire_after ≡ afterwards (whole_refusal narrow s dead helpers nodes (length wire)) wire (Whole.wire narrow s dead helpers nodes)
  pub restored : nodes_after ≡ afterwards (whole_refusal narrow s dead helpers nodes (length wire)) nodes (repaired narrow s dead helpers nodes)
  pub whole : whole_refusal narrow s dead helpers nodes (length wire) ≡ 0 → WholeRepair narrow s dead helpers nodes wire_after nodes_after
  pub alike : whole_refusal narrow s dead helpers nodes (length wire) ≡ 0 → Alike s dead helpers nodes wire_after nodes_after
