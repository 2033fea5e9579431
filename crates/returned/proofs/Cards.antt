-- A packed card is short; a card unpacked into a buffer for its symbols and one for its header.
use Rattle.std.specs.Prelude.{Result, Ok, Err}
use mathlib.Core.Path.{◌≡◌, refl, sym, ap, ◌∙◌}
use mathlib.Core.List.{List, [], ◌∷◌, ◌++◌, append-nil}
use Prim.Native.Nat.{ℕ, zero, suc, ◌+◌, ◌*◌, ◌≤◌}
use native.Mathlib.Decide.{ℕ_discrete}
use native.Mathlib.Omega.{arith}
use mathlib.Core.Logic.{◌≢◌}
use lib.ListN.{length, set, take, drop, take-append-drop, drop_of_length-le}
use lib.Seq.{length-take-le, drop-length}
use Rattle.lists.proofs.Tests.{cond_equal, cond_unequal}
use Rattle.lists.proofs.Writing.{sets_front}
use Rattle.shape.specs.declared.Refusal.{Refusal}
use Rattle.shape.specs.Shape.{symbol_values, size}
use Rattle.shape.specs.Refusals.{number_of, answer_number, answer_values}
use Rattle.shape.proofs.Accepted.{most_size}
use Rattle.shape.proofs.Answers.{number_positive, afterwards_done}
use Rattle.card.specs.declared.Header.{Header}
use Rattle.numbers.specs.Numbers.{most_groups, Numbers, values, broken}
use Rattle.card.specs.Cards.{header_fields, field_count, header_of, least_hearing, front_by, header_refusal, card_bytes, card_room, pack_refusal, Symbols, read_symbols, refused, card, judged, header_by, unpacked, unpacked_by}
use Rattle.card.specs.Promises.{reading_of, reading_number, reading_symbols, Packs, Unpacks}
use Rattle.card.proofs.Judging.{header_accepted, pack_accepted}
use Rattle.card.proofs.Cards.{card_fits}
use Rattle.returned.specs.Promises.{unpack_room, unpacked_into, reading_header, UnpackReturned}

-- ---- packing

pub card_short : (h : Header) (symbols before after : List ℕ) (answer : Result ℕ Refusal) (long : ℕ) → Packs h symbols before after answer → answer ≡ Ok long
    → long ≤ 15 + 2 * most_size
unfolding card_room
card_short h symbols before after answer long p e =
    let taken : pack_refusal symbol_values h symbols (length before) ≡ 0 = sym p.number ∙ ap answer_number e in
    let one : long ∷ [] ≡ length (card_bytes h symbols) ∷ [] = sym (ap answer_values e) ∙ p.returned ∙ afterwards_done [] _ _ taken in
    let same : long ≡ length (card_bytes h symbols) = cc in
    omega (arith, same, card_fits symbol_values (omega arith) h symbols (length before) taken, (pack_accepted symbol_values h symbols (length before) taken).headed.shaped.size_high)

-- ---- the header's buffer

-- six numbers are written over a buffer of six
pub six_set : (xs : List ℕ) (a b c d e f : ℕ) → length xs ≡ field_count → set (set (set (set (set (set xs 0 a) 1 b) 2 c) 3 d) 4 e) 5 f ≡ a ∷ b ∷ c ∷ d ∷ e ∷ f ∷ []
six_set xs a b c d e f l =
    sets_front (a ∷ b ∷ c ∷ d ∷ e ∷ f ∷ []) xs (omega arith) ∙ ap (λ t. (a ∷ b ∷ c ∷ d ∷ e ∷ f ∷ []) ++ t) (drop_of_length-le xs {i = field_count} (omega arith))

-- ---- the room for the symbols

module _ (header symbols : ℕ) where
  pub room_six : header ≡ field_count → unpack_room header symbols ≡ symbols
  unfolding unpack_room
  room_six e = cond_equal _ _ header field_count e

  pub room_other : header ≢ field_count → unpack_room header symbols ≡ 0
  unfolding unpack_room
  room_other e = cond_unequal _ _ header field_count e

  pub room_within : unpack_room header symbols ≤ symbols
  room_within = go (ℕ_discrete header field_count)
    where
      go : Dec (header ≡ field_count) → unpack_room header symbols ≤ symbols
      go (yes e) = omega (arith, room_six e)
      go (no e) = omega (arith, room_other e)

-- a card has symbols: no card is read into a buffer that has room for none
no_room : (bytes : List ℕ) (h : Header) (xs : List ℕ) → unpacked symbol_values bytes 0 ≡ card h xs → ⊥
unfolding unpacked_by header_by
no_room bytes h xs e = go (front_by most_groups bytes) e
  where
    go : (n : Numbers) → header_by most_groups symbol_values 0 n ≡ card h xs → ⊥
    go broken q = let z : ◌≡◌ {A = ℕ} 0 1 = cc in omega arith
    go (values ys rest) q = next (header_refusal (least_hearing ys) (header_of ys) 0 0) refl (read_symbols symbol_values (size (header_of ys).shape) rest) q
      where
        next : (number : ℕ) → header_refusal (least_hearing ys) (header_of ys) 0 0 ≡ number → (found : Symbols) → judged (header_of ys) number found ≡ card h xs → ⊥
        next zero a found q =
            let head = (header_accepted (least_hearing ys) (header_of ys) 0 0 a).0 in
            omega (arith, head.shaped.size_low, head.long)
        next (suc number) a found q = let q' : refused (suc number) ≡ card h xs = unfold judged in q in let z : ◌≡◌ {A = ℕ} 0 1 = cc in omega arith

-- the buffers behind the call, whose symbols were lent in the front of their buffer
module _ (bytes symbols header after : List ℕ) (room : ℕ) (same : room ≡ unpack_room (length header) (length symbols)) (answer : Result Header Refusal)
    (p : Unpacks bytes (take room symbols) after answer) where
  -- what was read, by the room that the front had
  reading : unpacked_into bytes symbols header ≡ reading_of answer after
  unfolding unpacked_into
  reading =
      ap (unpacked symbol_values bytes) (sym (length-take-le room symbols (rw same (room_within _ _)) ∙ same)) ∙ sym p.returned

  front : after ≡ reading_symbols (take room symbols) (reading_of answer after)
  front = p.buffer ∙ ap (reading_symbols (take room symbols)) (sym p.returned)

  pub unpack_refused : (cause : Refusal) → answer ≡ Err cause → UnpackReturned bytes symbols (after ++ drop room symbols) header header (number_of cause)
  unfolding reading_number reading_symbols reading_header
  unpack_refused cause e =
      let read : unpacked_into bytes symbols header ≡ refused (number_of cause) = reading ∙ ap (λ w. reading_of w after) e in
      let kept : after ≡ take room symbols = front ∙ ap (λ w. reading_symbols (take room symbols) (reading_of w after)) e in
      record {
        returned = sym (ap reading_number read);
        symbols_buffer = ap (λ t. t ++ drop room symbols) kept ∙ take-append-drop room symbols ∙ sym (ap (reading_symbols symbols) read);
        header_buffer = sym (ap (reading_header header) read);
        six = λ z. absurd (omega (arith, number_positive cause));
      }

  module _ (h : Header) (e : answer ≡ Ok h) where
    read : unpacked_into bytes symbols header ≡ card h after
    read = reading ∙ ap (λ w. reading_of w after) e

    pub header_six : length header ≡ field_count
    unfolding unpacked_into
    header_six = go (ℕ_discrete (length header) field_count)
      where
        go : Dec (length header ≡ field_count) → length header ≡ field_count
        go (yes f) = f
        go (no f) = absurd (no_room bytes h after (ap (unpacked symbol_values bytes) (sym (room_other (length header) (length symbols) f)) ∙ read))

    all_lent : room ≡ length symbols
    all_lent = same ∙ room_six (length header) (length symbols) header_six

    pub unpack_done : (now : List ℕ) → now ≡ header_fields h → UnpackReturned bytes symbols (after ++ drop room symbols) header now 0
    unfolding reading_number reading_symbols reading_header
    unpack_done now n = record {
      returned = sym (ap reading_number read);
      symbols_buffer = ap (λ k. after ++ drop k symbols) all_lent ∙ ap (λ t. after ++ t) (drop-length symbols) ∙ append-nil after ∙ sym (ap (reading_symbols symbols) read);
      header_buffer = n ∙ sym (ap (reading_header header) read);
      six = λ z. header_six;
    }
