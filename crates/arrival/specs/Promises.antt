-- What is promised of hearing and finishing: the number, both ways, each lent buffer when the call returns, and what calls in any order end in.
use Rattle.std.specs.Prelude.{◌≡◌, ◌≢◌, Bool, true, false, ◌&&◌, ◌||◌, cond, List, [], ◌∷◌, ℕ, ◌+◌, ◌*◌, ◌-◌, ◌<◌, eqb, length, get_or, Ok, Err}
use Rattle.lists.specs.Lists.{flat, outside, position}
use Rattle.shape.specs.declared.Shape.{Shape}
use Rattle.shape.specs.declared.Refusal.TheVariants.{BadNodes, WrongLength}
use Rattle.shape.specs.Refusals.{answer_number, afterwards, shape_bad, Answer}
use Rattle.code.specs.Code.{narrow}
use Rattle.classes.specs.Classes.{message_size}
use Rattle.classes.specs.Steps.{own_pairs, exchanges}
use Rattle.judging.specs.Refusals.{lists_refusal}
use Rattle.arrival.specs.Sums.{no_sums, added_to, finished_pairs, finished_exchanges}
use Rattle.arrival.specs.Record.{heard_count, nobody, noted, record_bad, caller_bad, hear_refusal, finish_refusal}

-- "Its first step shall take helpers' messages one by one in any order, adding each to the known side of the equations"
pub record Hears (s : Shape) (dead helpers : List ℕ) (new helper : ℕ) (message sums sums_after heard heard_after : List ℕ) (answer : Answer) : Type 0 where
  pub number : answer_number answer ≡ hear_refusal narrow s dead helpers new helper message sums heard
  pub added : sums_after
      ≡ afterwards (hear_refusal narrow s dead helpers new helper message sums heard) sums (added_to narrow s dead (position new dead) helper message sums)
  pub record_after : heard_after ≡ afterwards (hear_refusal narrow s dead helpers new helper message sums heard) heard (noted helper heard)
  -- "A helper heard a second time, or one not in the list, in the kept record too, is 2 and leaves the sums as they were."
  pub two : shape_bad s ≡ false → caller_bad (s.k + 1) helpers heard helper ≡ true → (answer ≡ Err BadNodes) × (sums_after ≡ sums) × (heard_after ≡ heard)

-- ---- calls one behind the other

-- one call: the helper and its message, the answer, and the sums and the record that it left
pub record Call : Type 0 where
  pub helper : ℕ
  pub message : List ℕ
  pub answer : Answer
  pub sums : List ℕ
  pub heard : List ℕ

-- Calls, each on what the one before it left, from some sums and a record to others: "only these calls writing what is kept". Any of them may
-- have been turned back.
abbrev pub Calls : Shape → List ℕ → List ℕ → ℕ → (sums heard : List ℕ) → List Call → (last_sums last_heard : List ℕ) → Type 0
Calls s dead helpers new sums heard [] last_sums last_heard = (last_sums ≡ sums) × (last_heard ≡ heard)
Calls s dead helpers new sums heard (x ∷ xs) last_sums last_heard =
    Hears s dead helpers new x.helper x.message sums x.sums heard x.heard x.answer × Calls s dead helpers new x.sums x.heard xs last_sums last_heard

-- a call by which a helper was heard
unfoldable pub heard_by : ℕ → Call → Bool
heard_by helper x = eqb helper x.helper && eqb (answer_number x.answer) 0

-- a helper was heard by one of the calls
unfoldable pub heard_in : List Call → ℕ → Bool
heard_in [] helper = false
heard_in (x ∷ xs) helper = heard_by helper x || heard_in xs helper

-- the message by which a helper was heard
unfoldable pub brought_by : List Call → ℕ → List ℕ
brought_by [] helper = []
brought_by (x ∷ xs) helper = cond (heard_by helper x) x.message (brought_by xs helper)

-- the message of the j-th helper
unfoldable pub brought_at : List ℕ → List Call → ℕ → List ℕ
brought_at helpers calls j = brought_by calls (get_or helpers j 0)

-- the helpers' messages one behind the other, in the order of document 01's first step
unfoldable pub brought : List ℕ → List Call → List ℕ
brought helpers calls = flat (length helpers) (brought_at helpers calls)

pub record Finishes (s : Shape) (dead helpers : List ℕ) (new : ℕ) (sums heard pairs pairs_after out out_after : List ℕ) (answer : Answer) : Type 0 where
  pub number : answer_number answer ≡ finish_refusal narrow s dead helpers new sums heard (length pairs) (length out)
  pub own : pairs_after
      ≡ afterwards (finish_refusal narrow s dead helpers new sums heard (length pairs) (length out)) pairs
      (finished_pairs narrow s dead helpers (position new dead) sums)
  pub sent : out_after
      ≡ afterwards (finish_refusal narrow s dead helpers new sums heard (length pairs) (length out)) out
      (finished_exchanges narrow s dead helpers (position new dead) sums)
  -- "Finishing before all k+1 are heard is 4.", where nothing before 4 turns it back
  pub four : lists_refusal s dead helpers (outside dead new || record_bad (s.k + 1) helpers heard) 0 ≡ 0 → heard_count heard ≢ s.k + 1
      → (answer ≡ Err WrongLength) × (pairs_after ≡ pairs) × (out_after ≡ out)
  -- "with sums begun at zero, nobody heard, and only these calls writing what is kept, every order must end in the pairs and outgoing messages of
  -- document 01's first step"
  pub step : answer ≡ Ok tt → (calls : List Call) → Calls s dead helpers new (no_sums s dead) (nobody s) calls sums heard
      → (pairs_after ≡ own_pairs narrow s dead helpers (position new dead) (brought helpers calls))
      × (out_after ≡ exchanges narrow s dead helpers (position new dead) (brought helpers calls))
  -- and so it ends once all are heard, in an accepted repair and with buffers of their lengths
  pub all : (calls : List Call) → Calls s dead helpers new (no_sums s dead) (nobody s) calls sums heard
      → ((j : ℕ) → j < length helpers → heard_in calls (get_or helpers j 0) ≡ true)
      → lists_refusal s dead helpers (outside dead new) 0 ≡ 0 → length pairs ≡ 2 * message_size s dead → length out ≡ (length dead - 1) * message_size s dead
      → answer ≡ Ok tt
