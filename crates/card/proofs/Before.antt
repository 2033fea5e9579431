-- Document 02 §9 and the cards of before: without a hearing number a card is packed as before, a card that does not start with 1 is read as
-- before, and the reader of before turns back every card with a hearing number.
use Rattle.shape.specs.declared.Refusal.{Refusal}
use Rattle.std.specs.Prelude.{Result}
use mathlib.Core.Path.{◌≡◌, refl, sym, ap, ◌∙◌}
use mathlib.Core.Logic.{◌⊎◌, inl, inr, ◌≢◌}
use mathlib.Core.Bool.{Bool, true, false, ◌||◌}
use mathlib.Core.List.{List, [], ◌∷◌, ◌++◌, flat_map}
use Prim.Native.Nat.{ℕ, zero, suc, ◌-◌, ◌≤◌, ◌<◌}
use native.Mathlib.Decide.{ℕ_discrete}
use native.Mathlib.Omega.{arith}
use borrow.Author.Tests.{eq-eqb}
use lib.ListN.{length, get_or}
use Rattle.lists.proofs.Tests.{below_or_not}
use Rattle.shape.specs.Shape.{symbol_values, size, within, shape_good}
use Rattle.shape.specs.Refusals.{refuse, shape_bad, wrong_length, symbol_bad}
use Rattle.numbers.specs.Numbers.{most_groups, group_values, numeral, Found, value, malformed, grouped, read_number, Numbers, values, broken, and_then, then_numbers, numbers_by}
use Rattle.numbers.proofs.Numbers.{never, value_parts, numeral_one, read_one, read_more, grouped_more, Under}
use Rattle.card.specs.declared.Header.{Header}
use Rattle.card.specs.Cards.{plain_numbers, plain_count, header_fields, hearing_lead, header_with, leads, hearing_bad, front_by, header_refusal, card_bytes, card_room, pack_refusal, refused, card, judged, header_by, unpacked_by}
use Rattle.card.specs.Promises.{Packs}
use Rattle.card.specs.Before.{header_refusal_before, pack_refusal_before, card_bytes_before, PacksBefore, header_before, unpacked_before}
use Rattle.card.proofs.Judging.{Headed}
use Rattle.card.proofs.Wider.{no_card}
use Rattle.card.proofs.Fronts.{numbers_plain, numbers_long, header_plain, least_plain, First, no_number, another, lead, first, numbers_none, front_none, front_another, numbers_first, another_leads}

-- ---- without a hearing number

-- no hearing number is in no case turned back
none_good : hearing_bad 0 0 ≡ false
unfolding hearing_bad within
none_good = refl

-- the causes of a header are those of before
module _ (h : Header) (none : h.hearing ≡ 0) (count rest : ℕ) where
  header_before_lem : header_refusal 0 h count rest ≡ header_refusal_before h (refuse (wrong_length count (size h.shape)) 4 rest)
  unfolding header_refusal header_refusal_before
  header_before_lem = rw (none, none_good)

module _ (h : Header) (none : h.hearing ≡ 0) where
  either : (a b : Bool) (number rest : ℕ) → refuse a number (refuse b number rest) ≡ refuse (a || b) number rest
  either true b number rest = refl
  either false b number rest = refl

  pack_before : (modulus : ℕ) (symbols : List ℕ) (room : ℕ) → pack_refusal modulus h symbols room ≡ pack_refusal_before modulus h symbols room
  unfolding pack_refusal pack_refusal_before
  pack_before modulus symbols room =
      header_before_lem h none (length symbols) _
      ∙ ap (header_refusal_before h) (either (wrong_length (length symbols) (size h.shape)) (wrong_length room (card_room h.shape)) 4 (refuse (symbol_bad modulus symbols) 5 0))

  bytes_before_lem : (symbols : List ℕ) → card_bytes h symbols ≡ card_bytes_before h symbols
  unfolding card_bytes card_bytes_before
  bytes_before_lem symbols = ap (λ xs. flat_map (numeral most_groups) (xs ++ symbols)) (numbers_plain h none)

  -- "With 0 a card is packed as today."
  pub packed_as_before : (symbols before after : List ℕ) (answer : Result ℕ Refusal) → Packs h symbols before after answer → PacksBefore h symbols before after answer
  packed_as_before symbols before after answer p = record {
    number = p.number ∙ pack_before symbol_values symbols (length before);
    returned = rw (← (pack_before symbol_values symbols (length before)), ← (bytes_before_lem symbols)) p.returned;
    buffer = rw (← (pack_before symbol_values symbols (length before)), ← (bytes_before_lem symbols)) p.buffer;
  }

-- ---- the reader of before

-- the number 1 is the byte 1
one_byte : (groups : ℕ) (bytes rest : List ℕ) → read_number groups bytes ≡ value hearing_lead rest → get_or bytes 0 0 ≡ hearing_lead
unfolding read_number grouped
one_byte zero bytes rest e = absurd (never e)
one_byte (suc groups) [] rest e = absurd (never e)
one_byte (suc groups) (b ∷ bs) rest e = go (below_or_not b group_values)
  where
    more : (f : Found) → grouped (b - group_values) f ≡ value hearing_lead rest → b ≡ hearing_lead
    more malformed q = absurd (never q)
    more (value high r) q = last (ℕ_discrete high 0)
      where
        last : Dec (high ≡ 0) → b ≡ hearing_lead
        last (yes z) = absurd (never (rw (eq-eqb high 0 z) at q))
        last (no z) = absurd (omega (arith, (value_parts (sym (grouped_more (b - group_values) high r (omega (arith, z))) ∙ q)).0, z))

    go : (b < group_values) ⊎ (group_values ≤ b) → b ≡ hearing_lead
    go (inl l) = (value_parts (sym (read_one groups b bs l) ∙ e)).0
    go (inr l) = more (read_number groups bs) (sym (read_more groups b bs l) ∙ e)

-- and where it stands first, the first number that is read is 1
byte_first : (groups : ℕ) (bytes : List ℕ) → get_or bytes 0 0 ≡ hearing_lead → (count : ℕ) (xs rest : List ℕ) → numbers_by groups (suc count) bytes ≡ values xs rest
    → get_or xs 0 0 ≡ hearing_lead
byte_first zero bytes d count xs rest e = absurd (let z : broken ≡ values xs rest = sym (numbers_none zero bytes (unfold read_number in refl) count) ∙ e in let z' : ◌≡◌ {A = ℕ} 0 1 = cc in omega arith)
byte_first (suc groups) [] d count xs rest e = absurd (omega arith)
byte_first (suc groups) (b ∷ bs) d count xs rest e =
    numbers_first (suc groups) (b ∷ bs) count hearing_lead bs xs rest (read_one groups b bs (omega arith) ∙ ap (λ v. value v bs) d) e

module _ (groups modulus : ℕ) (bytes : List ℕ) (room : ℕ) where
  -- a card that does not start with 1 is read as before
  pub plain_as_before : get_or bytes 0 0 ≢ hearing_lead → unpacked_by groups modulus bytes room ≡ unpacked_before groups modulus bytes room
  unfolding unpacked_by unpacked_before header_by header_before
  plain_as_before other = go (first groups bytes)
    where
      same : (n : Numbers) → ((xs rest : List ℕ) → n ≡ values xs rest → leads xs ≡ false) → header_by groups modulus room n ≡ header_before groups modulus room n
      same broken plain = refl
      same (values xs rest) plain =
          let t = plain xs rest refl in
          rw (header_plain xs t, least_plain xs t, header_before_lem (header_with 0 xs) (unfold header_with in refl) room 0) refl

      go : First groups bytes → header_by groups modulus room (front_by groups bytes) ≡ header_before groups modulus room (numbers_by groups plain_count bytes)
      go (no_number e) = rw (front_none groups bytes e, numbers_none groups bytes e 4) refl
      go (another v rest e d) =
          ap (header_by groups modulus room) (front_another groups bytes v rest e d)
          ∙ same (numbers_by groups plain_count bytes) (λ xs behind q. another_leads groups bytes v rest xs behind e d q)
      go (lead rest e) = absurd (other (one_byte groups bytes rest e))

  -- the reader of before gives 1 on every card with a leading 1 and a well-formed front
  pub lead_before : (xs rest : List ℕ) → get_or bytes 0 0 ≡ hearing_lead → numbers_by groups plain_count bytes ≡ values xs rest → unpacked_before groups modulus bytes room ≡ refused 1
  unfolding unpacked_before header_before header_refusal_before header_with shape_bad shape_good within judged
  lead_before xs rest d e = ap (header_before groups modulus room) e ∙ rw (byte_first groups bytes d 4 xs rest e) refl

  -- so it accepted no such card
  pub before_plain : (h : Header) (symbols : List ℕ) → unpacked_before groups modulus bytes room ≡ card h symbols → get_or bytes 0 0 ≢ hearing_lead
  unfolding unpacked_before header_before
  before_plain h symbols e d = go (numbers_by groups plain_count bytes) refl e
    where
      go : (n : Numbers) → numbers_by groups plain_count bytes ≡ n → header_before groups modulus room n ≡ card h symbols → ⊥
      go broken q a = no_card a
      go (values xs rest) q a = no_card (sym (lead_before xs rest d q) ∙ e)

-- ---- a card that was packed with a hearing number

-- numbers of one group are bytes
flat_ones : (vs ws : List ℕ) → Under group_values vs → flat_map (numeral most_groups) (vs ++ ws) ≡ vs ++ flat_map (numeral most_groups) ws
unfolding flat_map
flat_ones [] ws u = refl
flat_ones (v ∷ vs) ws u = rw (numeral_one (most_groups - 1) v u.0) (ap (λ l. v ∷ l) (flat_ones vs ws u.1))

read_ones : (groups : ℕ) (vs rest : List ℕ) → Under group_values vs → numbers_by (suc groups) (length vs) (vs ++ rest) ≡ values vs rest
unfolding numbers_by then_numbers and_then
read_ones groups [] rest u = refl
read_ones groups (v ∷ vs) rest u = rw (read_one groups v (vs ++ rest) u.0, read_ones groups vs rest u.1) refl

-- "Programs from before §9 meet that leading 1 as a bad n and return 1."
pub heard_before : (groups : ℕ) (least : ℕ) (h : Header) (symbols : List ℕ) → Headed least h (length symbols) → 0 < h.hearing → (modulus room : ℕ)
    → unpacked_before (suc groups) modulus (card_bytes h symbols) room ≡ refused 1
heard_before groups least h symbols w l modulus room =
    let s = w.shaped in
    let small : Under group_values front = (omega arith, (omega arith, (omega arith, (omega arith, (omega arith, tt))))) in
    let ones = flat_ones front (h.len ∷ h.hearing ∷ symbols) small in
    ap (λ l. unpacked_before (suc groups) modulus l room) (bytes ∙ ones)
    ∙ lead_before (suc groups) modulus _ room front (flat_map (numeral most_groups) (h.len ∷ h.hearing ∷ symbols)) refl (read_ones groups front _ small)
  where
    front : List ℕ
    front = hearing_lead ∷ h.shape.n ∷ h.shape.k ∷ h.shape.layers ∷ h.node ∷ []

    bytes : card_bytes h symbols ≡ flat_map (numeral most_groups) (front ++ h.len ∷ h.hearing ∷ symbols)
    bytes = unfold card_bytes header_fields plain_numbers in ap (λ xs. flat_map (numeral most_groups) (xs ++ symbols)) (numbers_long h l)
