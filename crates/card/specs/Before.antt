-- Cards before document 02 §9, when no card had a hearing number: what packing promised, and how a card was read. No code is left of it.
use Rattle.shape.specs.declared.Refusal.{Refusal}
use Rattle.std.specs.Prelude.{◌≡◌, not, ◌||◌, ℕ, ◌*◌, ltb, length, Result}
use mathlib.Core.List.{List, [], ◌∷◌, ◌++◌, flat_map}
use Rattle.shape.specs.Shape.{symbol_values, size}
use Rattle.shape.specs.Refusals.{refuse, shape_bad, wrong_length, symbol_bad, afterwards, answer_number, answer_values}
use Rattle.numbers.specs.Numbers.{most_groups, numeral, Numbers, values, broken, numbers_by}
use Rattle.card.specs.declared.Header.{Header}
use Rattle.card.specs.Cards.{plain_numbers, plain_count, header_with, card_room, symbols_by, Reading, refused, judged}
use Rattle.card.specs.Promises.{over}

-- "shape, node, length against k × N (6)"
unfoldable pub header_refusal_before : Header → ℕ → ℕ
header_refusal_before h rest =
    refuse (shape_bad h.shape) 1
    (refuse (not (ltb h.node h.shape.n)) 2
    (refuse (ltb (h.shape.k * size h.shape) h.len) 6 rest))

-- ---- packing

-- "Packing judges shape, node, length against k × N (6), buffer sizes, symbols."
unfoldable pub pack_refusal_before : ℕ → Header → List ℕ → ℕ → ℕ
pack_refusal_before modulus h symbols room =
    header_refusal_before h
    (refuse (wrong_length (length symbols) (size h.shape) || wrong_length room (card_room h.shape)) 4
    (refuse (symbol_bad modulus symbols) 5 0))

-- "A card is n, k, L, node number, transcript length, then N symbols, and ends there."
unfoldable pub card_bytes_before : Header → List ℕ → List ℕ
card_bytes_before h symbols = flat_map (numeral most_groups) (plain_numbers h ++ symbols)

pub record PacksBefore (h : Header) (symbols before after : List ℕ) (answer : Result ℕ Refusal) : Type 0 where
  pub number : answer_number answer ≡ pack_refusal_before symbol_values h symbols (length before)
  pub returned : answer_values answer ≡ afterwards (pack_refusal_before symbol_values h symbols (length before)) [] (length (card_bytes_before h symbols) ∷ [])
  pub buffer : after ≡ afterwards (pack_refusal_before symbol_values h symbols (length before)) before (over (card_bytes_before h symbols) before)

-- ---- unpacking

-- "the shape, the node, the length against k × N (6), the size of the lent buffer", then the symbols; the header has no hearing number
unfoldable pub header_before : ℕ → ℕ → ℕ → Numbers → Reading
header_before groups modulus room broken = refused 6
header_before groups modulus room (values xs rest) =
    judged (header_with 0 xs) (header_refusal_before (header_with 0 xs) (refuse (wrong_length room (size (header_with 0 xs).shape)) 4 0))
    (symbols_by groups modulus (size (header_with 0 xs).shape) rest)

-- first "the five numbers' form (6)", by a reader of at most `groups` groups: three until document 02 §7, then four
unfoldable pub unpacked_before : ℕ → ℕ → List ℕ → ℕ → Reading
unpacked_before groups modulus bytes room = header_before groups modulus room (numbers_by groups plain_count bytes)
