-- The record of the helpers heard, and when hearing and finishing turn back (document 02 §8).
use Rattle.std.specs.Prelude.{Bool, true, not, ◌&&◌, ◌||◌, List, [], ◌∷◌, ℕ, ◌+◌, ◌*◌, ◌-◌, ltb, length, take, set, replicate}
use Rattle.lists.specs.Lists.{all, member, outside}
use Rattle.shape.specs.declared.Shape.{Shape}
use Rattle.shape.specs.Refusals.{refuse, wrong_length, symbol_bad}
use Rattle.code.specs.Code.{Code}
use Rattle.classes.specs.Classes.{message_size}
use Rattle.judging.specs.Refusals.{lists_refusal}
use Rattle.arrival.specs.Sums.{kept_size}

-- The kept record: how many were heard, then their nodes in the order heard. Behind them anything may stand.
unfoldable pub heard_count : List ℕ → ℕ
heard_count [] = 0
heard_count (count ∷ rest) = count

-- the nodes that are counted, as far as the record goes
unfoldable pub heard_nodes : List ℕ → List ℕ
heard_nodes [] = []
heard_nodes (count ∷ rest) = take count rest

-- "nobody heard"
unfoldable pub nobody : Shape → List ℕ
nobody s = replicate (s.k + 2) 0

-- the record once a helper is heard
unfoldable pub noted : ℕ → List ℕ → List ℕ
noted helper [] = []
noted helper (count ∷ rest) = (count + 1) ∷ set rest count helper

-- no node stands twice
unfoldable pub distinct : List ℕ → Bool
distinct [] = true
distinct (x ∷ xs) = not (member x xs) && distinct xs

-- a node is a helper
unfoldable pub among : List ℕ → ℕ → Bool
among helpers x = member x helpers

-- "A helper heard a second time, or one not in the list, in the kept record too"; nor may it count more than there are, k+1
unfoldable pub record_bad : ℕ → List ℕ → List ℕ → Bool
record_bad most helpers heard = ltb most (heard_count heard) || not (distinct (heard_nodes heard) && all (among helpers) (heard_nodes heard))

-- a helper that may not be heard: "heard a second time, or one not in the list", or by a record that may not be
unfoldable pub caller_bad : ℕ → List ℕ → List ℕ → ℕ → Bool
caller_bad most helpers heard helper = outside helpers helper || member helper (heard_nodes heard) || record_bad most helpers heard

-- hearing a helper's message: ".. is 2"; "A kept sum handed in above the largest symbol is 5."
unfoldable pub hear_refusal : Code → Shape → List ℕ → List ℕ → ℕ → ℕ → List ℕ → List ℕ → List ℕ → ℕ
hear_refusal c s dead helpers new helper message sums heard =
    lists_refusal s dead helpers (outside dead new || caller_bad (s.k + 1) helpers heard helper)
    (refuse
    (wrong_length (length message) (message_size s dead) || wrong_length (length sums) (kept_size s dead) || wrong_length (length heard) (s.k + 2))
    4
    (refuse (symbol_bad c.modulus message || symbol_bad c.modulus sums) 5 0))

-- finishing, into buffers for the own pairs and the outgoing messages: "Finishing before all k+1 are heard is 4."
unfoldable pub finish_refusal : Code → Shape → List ℕ → List ℕ → ℕ → List ℕ → List ℕ → ℕ → ℕ → ℕ
finish_refusal c s dead helpers new sums heard pairs out =
    lists_refusal s dead helpers (outside dead new || record_bad (s.k + 1) helpers heard)
    (refuse
    (wrong_length (length sums) (kept_size s dead) || wrong_length (length heard) (s.k + 2) || wrong_length pairs (2 * message_size s dead)
    || wrong_length out ((length dead - 1) * message_size s dead) || wrong_length (heard_count heard) (s.k + 1))
    4
    (refuse (symbol_bad c.modulus sums) 5 0))
