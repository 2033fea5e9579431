-- What packing and unpacking promise: the number, what is returned, and the lent buffer when the call returns, turned back or not.
use Rattle.shape.specs.declared.Refusal.{Refusal}
use Rattle.std.specs.Prelude.{◌≡◌, List, [], ◌∷◌, ◌++◌, ℕ, length, drop, Result, Ok, Err}
use Rattle.shape.specs.Shape.{symbol_values}
use Rattle.shape.specs.Refusals.{number_of, afterwards, answer_number, answer_values}
use Rattle.card.specs.declared.Header.{Header}
use Rattle.card.specs.Cards.{card_bytes, pack_refusal, Reading, refused, card, unpacked}

-- ---- packing

-- some bytes at the front of a buffer: "bytes behind the card keep their values"
unfoldable pub over : List ℕ → List ℕ → List ℕ
over bytes before = bytes ++ drop (length bytes) before

-- packing symbols behind a header into a buffer of bytes
pub record Packs (h : Header) (symbols before after : List ℕ) (answer : Result ℕ Refusal) : Type 0 where
  pub number : answer_number answer ≡ pack_refusal symbol_values h symbols (length before)
  pub returned : answer_values answer ≡ afterwards (pack_refusal symbol_values h symbols (length before)) [] (length (card_bytes h symbols) ∷ [])
  pub buffer : after ≡ afterwards (pack_refusal symbol_values h symbols (length before)) before (over (card_bytes h symbols) before)

-- ---- unpacking

-- an answer and the symbols in the buffer, as a reading
abbrev pub reading_of : Result Header Refusal → List ℕ → Reading
reading_of (Ok h) symbols = card h symbols
reading_of (Err cause) symbols = refused (number_of cause)

-- the number of a reading, and the symbols' buffer behind it
unfoldable pub reading_number : Reading → ℕ
reading_number (refused number) = number
reading_number (card h symbols) = 0

unfoldable pub reading_symbols : List ℕ → Reading → List ℕ
reading_symbols before (refused number) = before
reading_symbols before (card h symbols) = symbols

-- unpacking the bytes of a card into a buffer of symbols
pub record Unpacks (bytes before after : List ℕ) (answer : Result Header Refusal) : Type 0 where
  pub number : answer_number answer ≡ reading_number (unpacked symbol_values bytes (length before))
  pub returned : reading_of answer after ≡ unpacked symbol_values bytes (length before)
  pub buffer : after ≡ reading_symbols before (unpacked symbol_values bytes (length before))
