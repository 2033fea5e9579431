-- Running a list of transfers in its order: each sender sends what it can make of what it holds by then (document 02 §12).
use Rattle.std.specs.Prelude.{cond, List, [], ◌∷◌, ℕ, ◌*◌, ◌-◌, ◌/◌, ◌%◌, length, get_or}
use Rattle.lists.specs.Lists.{tabulate, flat, member, position, piece}
use Rattle.shape.specs.declared.Shape.{Shape}
use Rattle.shape.specs.Shape.{size}
use Rattle.code.specs.Code.{Code}
use Rattle.classes.specs.Classes.{node}
use Rattle.classes.specs.Steps.{helper_message, own_pairs, exchange, other_rank, contents}
use Rattle.transfers.specs.declared.Transfer.{Transfer}
use Rattle.ordering.specs.Ordering.{between, same}

-- ---- what has been delivered

-- a transfer that has run, and the symbols that it carried
pub record Delivery : Type 0 where
  pub transfer : Transfer
  pub symbols : List ℕ

-- what a transfer has carried, of deliveries of which the latest stands first; nothing where it has not run
unfoldable pub heard : List Delivery → Transfer → List ℕ
heard [] t = []
heard (d ∷ ds) t = cond (same t d.transfer) d.symbols (heard ds t)

-- what helper j has sent to node i so far
unfoldable pub helper_heard : List ℕ → List Delivery → ℕ → ℕ → List ℕ
helper_heard helpers log i j = heard log (between (get_or helpers j 0) i)

-- what the helpers have sent to node i so far, one behind the other
unfoldable pub helpers_heard : List ℕ → List Delivery → ℕ → List ℕ
helpers_heard helpers log i = flat (length helpers) (helper_heard helpers log i)

-- what the j-th of the other dead nodes has sent to rank u so far
unfoldable pub fellow_heard : List ℕ → List Delivery → ℕ → ℕ → List ℕ
fellow_heard dead log u j = heard log (between (node dead (other_rank u j)) (node dead u))

-- what the other dead nodes have sent to rank u so far, senders rising
unfoldable pub fellows_heard : List ℕ → List Delivery → ℕ → List ℕ
fellows_heard dead log u = flat (length dead - 1) (fellow_heard dead log u)

-- ---- running

module _ (c : Code) (s : Shape) (dead helpers nodes : List ℕ) where
  -- what a sender sends: a helper its message, made of its own N symbols; a new node what its first step gives from what the helpers have
  -- sent to it by then
  unfoldable pub sends : List Delivery → Transfer → List ℕ
  sends log t =
      cond (member t.sender helpers) (helper_message c s dead (position t.receiver dead) (piece (size s) t.sender nodes))
      (exchange c s dead helpers (position t.sender dead) (helpers_heard helpers log t.sender) t.receiver)

  -- one transfer runs
  unfoldable pub delivered : List Delivery → Transfer → List Delivery
  delivered log t = record { transfer = t; symbols = sends log t } ∷ log

  -- the transfers of a list run in its order
  unfoldable pub run : List Delivery → List Transfer → List Delivery
  run log [] = log
  run log (t ∷ ts) = run (delivered log t) ts

  -- the N symbols that rank u ends with: its second step, from the own pairs of its first step and what its fellows have sent to it
  unfoldable pub rebuilt : List Delivery → ℕ → List ℕ
  rebuilt log u = contents c s dead u (own_pairs c s dead helpers u (helpers_heard helpers log (node dead u))) (fellows_heard dead log u)

  -- symbol e % N of node e / N once a list has run, from no deliveries on
  unfoldable pub ran_symbol : List Transfer → ℕ → ℕ
  ran_symbol list e = cond (member (e / size s) dead) (get_or (rebuilt (run [] list) (position (e / size s) dead)) (e % size s) 0) (get_or nodes e 0)

  -- "running the list in that order": all n nodes afterwards
  unfoldable pub ran : List Transfer → List ℕ
  ran list = tabulate (s.n * size s) (ran_symbol list)
