-- What is promised of opening stretches (document 02 §2): the number, the two buffers, and the request's claims in its words.
use Rattle.std.specs.Prelude.{◌≡◌, ◌↔◌, true, List, [], ◌∷◌, ℕ, ◌+◌, ◌%◌, ◌<◌, length, take, drop, Result, Ok}
use Rattle.lists.specs.Lists.{rising}
use Rattle.shape.specs.declared.Shape.{Shape}
use Rattle.shape.specs.Shape.{size}
use Rattle.shape.specs.Refusals.{answer_number, answer_values, afterwards}
use Rattle.shape.specs.declared.Refusal.{Refusal}
use Rattle.code.specs.Code.{narrow}
use Rattle.code.specs.Archive.{symbol, data_of}
use Rattle.code.specs.Promises.{Opens}
use Rattle.stretches.specs.Stretches.{stretch_count, stretch_start, stretch_length, bytes_before, joined, touched, touched_columns, column_list, symbols_read}
use Rattle.stretches.specs.Refusals.{stretches_size_refusal, stretches_refusal}

-- "a wanted byte's symbol stands at it": that of byte x of stretch m
pub record StandsAt (s : Shape) (stretches : List ℕ) (column : ℕ) : Type 0 where
  pub m : ℕ
  pub x : ℕ
  pub named : m < stretch_count stretches
  pub inside : x < stretch_length stretches m
  pub stands : (stretch_start stretches m + x) % size s ≡ column

-- the same symbols in the touched columns, whatever the others hold
pub record SameTouched (s : Shape) (stretches symbols other : List ℕ) : Type 0 where
  pub long : length other ≡ length symbols
  pub same : (j column : ℕ) → j < s.k → column < size s → touched s stretches column ≡ true → symbol s other j column ≡ symbol s symbols j column

-- what the call gives: the number, and the buffers of bytes and of columns at exit
pub record Gives (s : Shape) (list symbols : List ℕ) (len : ℕ) (stretches before after columns columns_after : List ℕ) (answer : Result ℕ Refusal) : Type 0 where
  pub number : answer_number answer ≡ stretches_refusal narrow s list symbols len stretches (length before) (length columns)
  pub bytes : after ≡ afterwards (stretches_refusal narrow s list symbols len stretches (length before) (length columns)) before (joined stretches (data_of narrow s list symbols))
  pub list_after : columns_after ≡ afterwards (stretches_refusal narrow s list symbols len stretches (length before) (length columns)) columns (column_list s stretches)
  pub count : answer_values answer ≡ afterwards (stretches_refusal narrow s list symbols len stretches (length before) (length columns)) [] (symbols_read s stretches ∷ [])

pub record OpensStretches (s : Shape) (list symbols : List ℕ) (len : ℕ) (stretches before after columns columns_after : List ℕ) (answer : Result ℕ Refusal) : Type 0 where
  pub gives : Gives s list symbols len stretches before after columns columns_after answer
  -- "touched exactly if a wanted byte's symbol stands at it"
  pub touch : (column : ℕ) → (touched s stretches column ≡ true) ↔ StandsAt s stretches column
  -- "each touched column one time, rising"
  pub once : rising 0 (size s) (touched_columns s stretches) ≡ true
  -- "joined in the order given": where `open` gives a transcript of that length and no cause of 1, 2, 4 and 9 holds, the call succeeds, and stretch m of
  -- what it gives is stretch m of that transcript
  pub opens : (room transcript : List ℕ) → Opens s list symbols len room transcript (Ok tt)
      → stretches_size_refusal s list (length symbols) len stretches (length before) (length columns) 0 ≡ 0
      → (answer ≡ Ok (symbols_read s stretches)) × (after ≡ joined stretches transcript)
      × ((m : ℕ) → m < stretch_count stretches
      → take (stretch_length stretches m) (drop (bytes_before stretches m) after) ≡ take (stretch_length stretches m) (drop (stretch_start stretches m) transcript))
  -- "Symbols in other columns have no effect on the result": with others there, the call gives the same
  pub alone : (other : List ℕ) → SameTouched s stretches symbols other → Gives s list other len stretches before after columns columns_after answer
