-- What is promised of write, restore and open: one record for each call.
use Rattle.std.specs.Prelude.{◌≡◌, ◌↔◌, List, ℕ, ◌*◌, ◌/◌, ◌%◌, ◌≤◌, ◌<◌, length, get_or, take, Ok}
use Rattle.shape.specs.declared.Shape.{Shape}
use Rattle.shape.specs.Shape.{size}
use Rattle.shape.specs.Refusals.{answer_number, afterwards, Answer}
use Rattle.code.specs.Code.{narrow}
use Rattle.code.specs.Archive.{symbol, Codeword, restored, written, data_of, Holds, Transcript}
use Rattle.code.specs.Refusals.{write_refusal, restore_refusal, open_size_refusal, open_refusal}

-- ---- write

pub record Writes (s : Shape) (bytes before after : List ℕ) (answer : Answer) : Type 0 where
  pub number : answer_number answer ≡ write_refusal s bytes (length before)
  pub nodes : after ≡ afterwards (write_refusal s bytes (length before)) before (written narrow s bytes)
  -- demand 2: what is written is a codeword
  pub codeword : answer ≡ Ok tt → Codeword narrow s after
  -- "Transcript byte number b stands on node b div N at place b mod N."
  pub byte : answer ≡ Ok tt → (b : ℕ) → b < length bytes → symbol s after (b / size s) (b % size s) ≡ get_or bytes b 0
  -- "The rest of nodes 0 to k−1 is 0."
  pub rest : answer ≡ Ok tt → (e : ℕ) → length bytes ≤ e → e < s.k * size s → symbol s after (e / size s) (e % size s) ≡ 0

-- ---- restore

pub record Restores (s : Shape) (list symbols before after : List ℕ) (answer : Answer) : Type 0 where
  pub number : answer_number answer ≡ restore_refusal narrow s list symbols (length before)
  pub nodes : after ≡ afterwards (restore_refusal narrow s list symbols (length before)) before (restored narrow s list symbols)
  -- demand 2: what is restored is a codeword, has the symbols handed in at the listed nodes, and is the only one
  pub codeword : answer ≡ Ok tt → Codeword narrow s after
  pub holds : answer ≡ Ok tt → Holds s list symbols after
  pub only : answer ≡ Ok tt → (w : List ℕ) → Codeword narrow s w → Holds s list symbols w → w ≡ after

-- ---- open

pub record Opens (s : Shape) (list symbols : List ℕ) (len : ℕ) (before after : List ℕ) (answer : Answer) : Type 0 where
  pub number : answer_number answer ≡ open_refusal narrow s list symbols len (length before)
  pub transcript : after ≡ afterwards (open_refusal narrow s list symbols len (length before)) before (take len (data_of narrow s list symbols))
  -- demand 2: where shape, list and lengths are accepted, opening succeeds exactly if there are `len` bytes whose written archive has
  -- these symbols at the listed nodes
  pub opens : open_size_refusal s list symbols len (length before) ≡ 0 → (answer ≡ Ok tt) ↔ Transcript narrow s list symbols len
  -- and then the buffer holds those bytes
  pub gives : answer ≡ Ok tt → (t : Transcript narrow s list symbols len) → after ≡ t.bytes
