-- What is promised of correct (document 02 §10).
use Rattle.std.specs.Prelude.{◌≡◌, ◌≢◌, cond, List, [], ℕ, ◌+◌, ◌-◌, ◌*◌, ◌/◌, ◌%◌, ◌≤◌, ◌<◌, eqb, ℤ, pos, ◌+ℤ◌, nat_abs, length, get_or, Ok}
use Rattle.shape.specs.declared.Shape.{Shape}
use Rattle.shape.specs.Shape.{size, byte_values}
use Rattle.shape.specs.Refusals.{answer_number, afterwards, Answer}
use Rattle.code.specs.Code.{narrow}
use Rattle.code.specs.Archive.{symbol, written}
use Rattle.correcting.specs.Signed.{to_residue}
use Rattle.correcting.specs.Correcting.{change_factor, corrected, touched, differing, amended, correct_refusal}

pub record Corrects (s : Shape) (len b : ℕ) (z : ℤ) (before after : List ℕ) (answer : Answer) : Type 0 where
  pub number : answer_number answer ≡ correct_refusal narrow s before len b z
  pub nodes : after ≡ afterwards (correct_refusal narrow s before len b z) before (corrected narrow s before b z)
  -- the byte's own symbol is the data symbol plus the change
  pub own : answer ≡ Ok tt → pos (symbol s after (b / size s) (b % size s)) ≡ pos (symbol s before (b / size s) (b % size s)) +ℤ z
  -- "Each check node, k to n−1, changes only at the byte's place, by the change times a factor"
  pub check : answer ≡ Ok tt → (i : ℕ) → s.k ≤ i → i < s.n
      → symbol s after i (b % size s)
      ≡ (symbol s before i (b % size s) + to_residue narrow.modulus z * change_factor narrow s (b / size s) (b % size s) i) % narrow.modulus
  pub only : answer ≡ Ok tt → (i place : ℕ) → i < s.n → place < size s → place ≢ b % size s → symbol s after i place ≡ symbol s before i place
  -- "If the archive was written from a transcript of that length, the result equals writing the corrected transcript afresh"
  pub afresh : answer ≡ Ok tt → (bytes : List ℕ) → length bytes ≡ len → ((e : ℕ) → e < len → get_or bytes e 0 < byte_values)
      → before ≡ written narrow s bytes → after ≡ written narrow s (amended bytes b z)
  -- "at most r+1 symbols, one a node, differ: the byte's own and one in each check node": none where the change is 0, and else all of them
  pub few : answer ≡ Ok tt → length (differing before after) ≤ s.n - s.k + 1
  pub differ : answer ≡ Ok tt → differing before after ≡ cond (eqb (nat_abs z) 0) [] (touched s b)
