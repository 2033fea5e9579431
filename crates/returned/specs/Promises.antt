-- What is promised of the C interface: the number that a C caller gets, and of the buffers what the call below promises.
use Rattle.std.specs.Prelude.{◌≡◌, cond, List, ℕ, ◌+◌, ◌-◌, ◌*◌, eqb, length, Ok, Err, Result, Some, None}
use Rattle.shape.specs.Shape.{symbol_values, size}
use Rattle.shape.specs.declared.Shape.{Shape}
use Rattle.shape.specs.declared.Refusal.{Refusal}
use Rattle.shape.specs.Refusals.{number_of}
use Rattle.checking.specs.declared.Fault.TheVariants.{Unmet, HighData}
use Rattle.checking.specs.Promises.{Checked, equation_number, symbol_number}
use Rattle.card.specs.declared.Header.{Header}
use Rattle.card.specs.Cards.{Reading, refused, card, header_fields, field_count, unpacked}
use Rattle.card.specs.Promises.{reading_number, reading_symbols}

-- every call but unpack: the promise of the call below holds of an answer, and the number returned is that answer's, which the promise fixes
pub record Returned {A : Type 0} (number_for : A → ℕ) (promise : A → Type 0) (number : ℕ) : Type 0 where
  pub answer : A
  pub kept : promise answer
  pub returned : number ≡ number_for answer

-- the shape that three numbers make
abbrev pub shape_of : ℕ → ℕ → ℕ → Shape
shape_of n k layers = record { n = n; k = k; layers = layers }

-- the header that six numbers make
abbrev pub header_from : ℕ → ℕ → ℕ → ℕ → ℕ → ℕ → Header
header_from n k layers node len hearing = record { shape = shape_of n k layers; node = node; len = len; hearing = hearing }

-- ---- what a number says beside a refusal

-- what check finds, the length of a packed card and that of a plan's text, the layers chosen and the symbols read stand behind the numbers
-- below this one, which are refusals'
abbrev pub first_found : ℕ
first_found = 256

-- the number of a node's symbol at a place behind those of all equations, of which there are r × N
unfoldable pub behind_equations : Shape → ℕ → ℕ → ℕ
behind_equations s node place = (s.n - s.k) * size s + symbol_number s node place

-- 0 sound; a refusal's number; 256 + e where equation e is the first unmet; or, where all equations are met and that data symbol is the
-- first above 255, 256 + r × N + (node × N + place) (document 02 §5)
abbrev pub check_returned : Shape → Checked → ℕ
check_returned s (Ok None) = 0
check_returned s (Err cause) = number_of cause
check_returned s (Ok (Some (Unmet layer a t))) = first_found + equation_number s layer a t
check_returned s (Ok (Some (HighData node place))) = first_found + behind_equations s node place

-- a refusal's number, or 256 + the number found: a card's length, that of a plan's text, L (document 02 §6), the count of symbols read (document 02 §2)
abbrev pub found_number : Result ℕ Refusal → ℕ
found_number (Err cause) = number_of cause
found_number (Ok found) = first_found + found

-- ---- unpack

-- the symbols that unpacking has room for: beside a header buffer of another length, none. A card has symbols, so it is then turned back with 4
-- where "the size of the lent buffer" is judged
unfoldable pub unpack_room : ℕ → ℕ → ℕ
unpack_room header symbols = cond (eqb header field_count) symbols 0

-- a card read into a buffer of symbols and one of header numbers
unfoldable pub unpacked_into : List ℕ → List ℕ → List ℕ → Reading
unpacked_into bytes symbols header = unpacked symbol_values bytes (unpack_room (length header) (length symbols))

-- the header's buffer behind a reading: "n, k, L, node, length, hearing number" (document 02 §9)
unfoldable pub reading_header : List ℕ → Reading → List ℕ
reading_header before (refused number) = before
reading_header before (card h symbols) = header_fields h

-- unpacking into two buffers
pub record UnpackReturned (bytes symbols symbols_after header header_after : List ℕ) (number : ℕ) : Type 0 where
  pub returned : number ≡ reading_number (unpacked_into bytes symbols header)
  pub symbols_buffer : symbols_after ≡ reading_symbols symbols (unpacked_into bytes symbols header)
  pub header_buffer : header_after ≡ reading_header header (unpacked_into bytes symbols header)
  -- a call that does its work has a header buffer of the exact length
  pub six : number ≡ 0 → length header ≡ field_count
