-- Whether an ordered list of transfers may run (document 02 §12), and when the call turns back.
use Rattle.std.specs.Prelude.{◌≡◌, Bool, false, true, not, ◌&&◌, ◌||◌, cond, List, [], ◌∷◌, ℕ, ◌+◌, ◌*◌, ◌/◌, ◌%◌, ◌<◌, eqb, length, get_or, take}
use Rattle.lists.specs.Lists.{tabulate, range, all, member}
use Rattle.shape.specs.declared.Shape.{Shape}
use Rattle.shape.specs.Refusals.{refuse}
use Rattle.judging.specs.Refusals.{lists_refusal}
use Rattle.transfers.specs.declared.Transfer.{Transfer}
use Rattle.transfers.specs.Plan.{transfers, no_transfer}

-- the transfer from node i to node j
abbrev pub between : ℕ → ℕ → Transfer
between i j = record { sender = i; receiver = j }

-- "The list is lent as numbers, sender then receiver": its pair x
unfoldable pub pair_at : List ℕ → ℕ → Transfer
pair_at numbers x = between (get_or numbers (x * 2) 0) (get_or numbers (x * 2 + 1) 0)

-- its pairs
unfoldable pub pairs : List ℕ → List Transfer
pairs numbers = tabulate (length numbers / 2) (pair_at numbers)

-- the transfer at a place of a list
unfoldable pub at : List Transfer → ℕ → Transfer
at list x = get_or list x no_transfer

-- two transfers are the same
unfoldable pub same : Transfer → Transfer → Bool
same t u = eqb t.sender u.sender && eqb t.receiver u.receiver

-- how often a transfer stands in a list
unfoldable pub times : Transfer → List Transfer → ℕ
times t [] = 0
times t (u ∷ us) = cond (same t u) 1 0 + times t us

-- a transfer stands in a list
unfoldable pub stands : Transfer → List Transfer → Bool
stands t list = not (eqb (times t list) 0)

-- a transfer of the plan "stands there once"
unfoldable pub once_in : List Transfer → Transfer → Bool
once_in list t = eqb (times t list) 1

-- "nothing else does": a transfer of the list is in the plan
unfoldable pub planned_in : List Transfer → Transfer → Bool
planned_in plan t = stands t plan

-- node j's message to a node stands before place x
unfoldable pub sent_before : List Transfer → ℕ → ℕ → ℕ → Bool
sent_before list x i j = stands (between j i) (take x list)

-- "each exchange comes after all k+1 messages to its sender": an exchange is a transfer that a dead node sends
unfoldable pub ready_at : List ℕ → List ℕ → List Transfer → ℕ → Bool
ready_at dead helpers list x = not (member (at list x).sender dead) || all (sent_before list x (at list x).sender) helpers

-- "say yes exactly if every transfer of the plan stands there once, nothing else does, and each exchange comes after all k+1 messages to
-- its sender"
unfoldable pub may_run : List ℕ → List ℕ → List Transfer → Bool
may_run dead helpers list =
    all (once_in list) (transfers dead helpers)
    && all (planned_in (transfers dead helpers)) list
    && all (ready_at dead helpers list) (range 0 (length list))

-- "an odd count of them is 4"
unfoldable pub odd_count : List ℕ → Bool
odd_count numbers = not (eqb (length numbers % 2) 0)

-- causes 1 to 3 of the lists, as for a plan, then 4, and then what the list itself says
unfoldable pub pairs_refusal : Shape → List ℕ → List ℕ → List ℕ → ℕ → ℕ
pairs_refusal s dead helpers numbers rest = lists_refusal s dead helpers false (refuse (odd_count numbers) 4 rest)

-- "13, in place of a no, when the list breaks one of these rules, judged after 4"
unfoldable pub order_refusal : Shape → List ℕ → List ℕ → List ℕ → ℕ
order_refusal s dead helpers numbers = pairs_refusal s dead helpers numbers (refuse (not (may_run dead helpers (pairs numbers))) 13 0)

-- ---- a yes in the words of the request

-- a place below a bound at which a transfer stands
pub record Place (list : List Transfer) (t : Transfer) (bound : ℕ) : Type 0 where
  pub place : ℕ
  pub below : place < bound
  pub is : at list place ≡ t

-- what a yes says of the list
pub record MayRun (dead helpers : List ℕ) (list : List Transfer) : Type 0 where
  -- "every transfer of the plan stands there"
  pub whole : (e : ℕ) → e < length (transfers dead helpers) → Place list (at (transfers dead helpers) e) (length list)
  -- "once"
  pub once : (e x y : ℕ) → e < length (transfers dead helpers) → x < length list → y < length list
      → at list x ≡ at (transfers dead helpers) e → at list y ≡ at (transfers dead helpers) e → x ≡ y
  -- "nothing else does"
  pub planned : (x : ℕ) → x < length list → Place (transfers dead helpers) (at list x) (length (transfers dead helpers))
  -- "each exchange comes after all k+1 messages to its sender"
  pub behind : (x j : ℕ) → x < length list → member (at list x).sender dead ≡ true → j < length helpers
      → Place list (between (get_or helpers j 0) (at list x).sender) x
