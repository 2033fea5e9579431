-- How the list is gone through: whether a transfer may follow those before it, and a table of what has been sent. Inner functions alone cite these.
use Rattle.std.specs.Prelude.{◌≡◌, Bool, false, not, ◌&&◌, ◌||◌, List, ℕ, ◌+◌, ◌*◌, ◌<◌, eqb, length, get_or}
use Rattle.lists.specs.Lists.{all, member}
use Rattle.shape.specs.Shape.{most_nodes}
use Rattle.transfers.specs.declared.Transfer.{Transfer}
use Rattle.ordering.specs.Ordering.{between, stands}

-- a transfer is in the plan, by the lists: a helper's message to a dead node, or a dead node's to another
unfoldable pub in_plan : List ℕ → List ℕ → Transfer → Bool
in_plan dead helpers t =
    member t.receiver dead && (member t.sender helpers || (member t.sender dead && not (eqb t.sender t.receiver)))

-- ---- what has been sent: whether node i has sent to node j

-- by a list of transfers
unfoldable pub by_list : List Transfer → ℕ → ℕ → Bool
by_list list i j = stands (between i j) list

-- by a table with a row for each sender
unfoldable pub by_table : List Bool → ℕ → ℕ → Bool
by_table table i j = get_or table (i * most_nodes + j) false

-- node j has sent to node i
unfoldable pub sent_to : (ℕ → ℕ → Bool) → ℕ → ℕ → Bool
sent_to sent i j = sent j i

-- a transfer may follow what has been sent: it is in the plan, has not run, and does not wait for a helper's message to its sender
unfoldable pub may_follow : List ℕ → List ℕ → (ℕ → ℕ → Bool) → Transfer → Bool
may_follow dead helpers sent t =
    in_plan dead helpers t && not (sent t.sender t.receiver) && (not (member t.sender dead) || all (sent_to sent t.sender) helpers)

-- a table has what some transfers have sent
pub record Sent (list : List Transfer) (table : List Bool) : Type 0 where
  pub long : length table ≡ most_nodes * most_nodes
  pub each : (i j : ℕ) → i < most_nodes → j < most_nodes → by_table table i j ≡ by_list list i j

-- all nodes of a list are below the most there can be
abbrev pub Nodes : List ℕ → Type 0
Nodes list = (j : ℕ) → j < length list → get_or list j 0 < most_nodes
