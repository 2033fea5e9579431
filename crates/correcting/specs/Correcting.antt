-- Correcting one byte (document 02 §10): what the nodes hold afterwards, and when the call turns back. Byte b stands on node b div N at place
-- b mod N, and z is the change.
use Rattle.std.specs.Prelude.{cond, not, ◌||◌, List, ◌∷◌, ℕ, ◌+◌, ◌-◌, ◌*◌, ◌/◌, ◌%◌, ◌^◌, ltb, eqb, ℤ, length, get_or, set}
use Rattle.lists.specs.Lists.{tabulate, range, picked}
use Rattle.shape.specs.declared.Shape.{Shape}
use Rattle.shape.specs.Shape.{size}
use Rattle.shape.specs.Refusals.{refuse, shape_bad, wrong_length, symbol_bad}
use Rattle.code.specs.Code.{Code}
use Rattle.code.specs.Archive.{column}
use Rattle.factors.specs.Factors.{factor}
use Rattle.correcting.specs.Signed.{to_residue, change_bad, moved}

-- "a factor that depends only on shape, the byte's node and place, and the check node": what the symbol of data node `node` is multiplied by
-- in node i (document 02 §4). It is 1 in the byte's own node, and 0 in the other data nodes.
unfoldable pub change_factor : Code → Shape → ℕ → ℕ → ℕ → ℕ
change_factor c s node place i = factor c s.n (range 0 s.k) (place % 2 ^ s.n) i node

-- symbol e of all nodes afterwards: at the byte's place each changes "by the change times a factor"
unfoldable pub corrected_symbol : Code → Shape → List ℕ → ℕ → ℤ → ℕ → ℕ
corrected_symbol c s nodes b z e =
    cond (eqb (e % size s) (b % size s))
    ((get_or nodes e 0 + to_residue c.modulus z * change_factor c s (b / size s) (b % size s) (e / size s)) % c.modulus)
    (get_or nodes e 0)

-- "update the nodes in place"
unfoldable pub corrected : Code → Shape → List ℕ → ℕ → ℤ → List ℕ
corrected c s nodes b z = tabulate (s.n * size s) (corrected_symbol c s nodes b z)

-- the places among all n × N that may differ afterwards: "the byte's own and one in each check node"
unfoldable pub touched : Shape → ℕ → List ℕ
touched s b = b ∷ tabulate (s.n - s.k) (λ j. (s.k + j) * size s + b % size s)

-- the places that do differ
unfoldable pub differing : List ℕ → List ℕ → List ℕ
differing before after = picked (λ e. not (eqb (get_or before e 0) (get_or after e 0))) (length before)

-- "the corrected transcript"
unfoldable pub amended : List ℕ → ℕ → ℤ → List ℕ
amended bytes b z = set bytes b (moved (get_or bytes b 0) z)

-- "A byte number not below the length is 9. Number 5 here looks only at the byte's place in the n nodes. .. 12 .. judged after 5"; 9 is "judged
-- after 4 and before 5" (§2).
unfoldable pub correct_refusal : Code → Shape → List ℕ → ℕ → ℕ → ℤ → ℕ
correct_refusal c s nodes len b z =
    refuse (shape_bad s) 1
    (refuse (wrong_length (length nodes) (s.n * size s) || ltb (s.k * size s) len) 4
    (refuse (not (ltb b len)) 9
    (refuse (symbol_bad c.modulus (column s nodes (b % size s))) 5
    (refuse (change_bad (get_or nodes b 0) z) 12 0))))
