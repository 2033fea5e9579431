-- The round trips, about the promises of the calls: unpacking what packing wrote gives header and symbols back, packing what unpacking gave
-- writes the same bytes; cards of the form of before are read as before, and the reader of before turns back the others; and a number that is
-- read stands in its shortest form, the only one.
use Rattle.shape.specs.declared.Refusal.{Refusal}
use Rattle.std.specs.Prelude.{Result, Ok, Err}
use mathlib.Core.Path.{◌≡◌, refl, sym, ap, ◌∙◌}
use mathlib.Core.Logic.{◌≢◌}
use mathlib.Core.Bool.{true}
use mathlib.Core.List.{List, [], ◌∷◌, ◌++◌}
use Prim.Native.Nat.{ℕ, suc, ◌+◌, ◌-◌, ◌^◌, ◌≤◌, ◌<◌}
use native.Mathlib.Omega.{arith}
use lib.ListN.{length, get_or, take, drop, length-append, take-append-drop}
use lib.Seq.{take_at, drop-append_seam}
use Rattle.lists.specs.Lists.{all, below}
use Rattle.shape.specs.Shape.{symbol_values, size, byte_values}
use Rattle.shape.proofs.Answers.{number_positive, afterwards_done}
use Rattle.card.specs.declared.Header.{Header}
use Rattle.numbers.specs.Numbers.{most_groups, read_to, group_values, numeral, read_number, placed, number_at}
use Rattle.card.specs.Cards.{hearing_lead, card_bytes, card_room, pack_refusal, refused, card, unpacked}
use Rattle.card.specs.Promises.{over, Packs, reading_of, Unpacks}
use Rattle.card.specs.Before.{unpacked_before}
use Rattle.numbers.proofs.Numbers.{read_numeral, number_unique, all_behind}
use Rattle.numbers.proofs.Places.{number_read}
use Rattle.card.proofs.Cards.{unpack_packed, pack_unpacked}
use Rattle.card.proofs.Judging.{pack_accepted}
use Rattle.card.proofs.Wider.{unpacked_wider}
use Rattle.card.proofs.Before.{plain_as_before, before_plain, heard_before}

-- ---- numbers

-- a number read at a place: its shortest form stands there
pub number_only : (bytes : List ℕ) (at v next : ℕ) → all (below byte_values) bytes ≡ true → number_at most_groups bytes at ≡ read_to v next
    → drop at bytes ≡ numeral most_groups v ++ drop next bytes
number_only bytes at v next small e =
    number_unique most_groups (drop at bytes) v (drop next bytes) (all_behind (below byte_values) (take at bytes) (drop at bytes) (rw (take-append-drop at bytes) small))
    (number_read most_groups bytes at v next e)

-- the shortest form of a number, wherever it stands, is read
pub number_back : (front behind : List ℕ) (v : ℕ) → v < group_values ^ most_groups
    → number_at most_groups (front ++ (numeral most_groups v ++ behind)) (length front) ≡ read_to v (length front + length (numeral most_groups v))
unfolding number_at placed
number_back front behind v h =
    let long = length-append front (numeral most_groups v ++ behind) in
    let short = length-append (numeral most_groups v) behind in
    ap (placed (length (front ++ (numeral most_groups v ++ behind)))) (ap (read_number most_groups) (drop-append_seam front (numeral most_groups v ++ behind)) ∙ read_numeral (most_groups - 1) v behind h)
    ∙ ap (read_to v) (let e : length (front ++ (numeral most_groups v ++ behind)) - length behind ≡ length front + length (numeral most_groups v) = omega arith in e)

-- ---- cards

-- an answer whose reading is a card: its header, and in the buffer its symbols
answered : (h : Header) (buffer symbols : List ℕ) (answer : Result Header Refusal) → reading_of answer buffer ≡ card h symbols → (answer ≡ Ok h) × (buffer ≡ symbols)
answered h buffer symbols (Ok h') q = (ap Ok (let s : h' ≡ h = cc in s), cc)
answered h buffer symbols (Err cause) q = absurd (let z : ◌≡◌ {A = ℕ} 0 1 = cc in omega arith)

module _ (h : Header) (symbols before after : List ℕ) where
  -- what packing wrote, where it did not turn back
  written : (answer : Result ℕ Refusal) → Packs h symbols before after answer → pack_refusal symbol_values h symbols (length before) ≡ 0
      → (answer ≡ Ok (length (card_bytes h symbols))) × (take (length (card_bytes h symbols)) after ≡ card_bytes h symbols)
  unfolding over
  written (Err cause) p e = absurd (omega (arith, p.number, e, number_positive cause))
  written (Ok long) p e =
      let one : long ∷ [] ≡ length (card_bytes h symbols) ∷ [] = p.returned ∙ afterwards_done [] _ _ e in
      (ap Ok (cc), ap (take (length (card_bytes h symbols))) (p.buffer ∙ afterwards_done before _ _ e) ∙ take_at (card_bytes h symbols) _ _ refl)

  -- "Cards (node files) are packed and unpacked": what was packed is unpacked as it was
  pub packed_unpacks : (long : ℕ) → Packs h symbols before after (Ok long)
      → (buffer buffer' : List ℕ) (answer : Result Header Refusal) → length buffer ≡ size h.shape → Unpacks (take long after) buffer buffer' answer
      → (answer ≡ Ok h) × (buffer' ≡ symbols)
  packed_unpacks long p buffer buffer' answer e u =
      let w = written (Ok long) p (sym p.number) in
      let same : long ≡ length (card_bytes h symbols) = cc in
      answered h buffer' symbols answer (u.returned
      ∙ ap (unpacked symbol_values (take long after)) e
      ∙ ap (λ l. unpacked symbol_values l (size h.shape)) (ap (λ n. take n after) same ∙ w.1)
      ∙ unpack_packed symbol_values (omega arith) h symbols (length before) (sym p.number))

-- a card that was accepted is packed as it was
pub unpacked_packs : (bytes buffer symbols : List ℕ) (h : Header) → all (below byte_values) bytes ≡ true → Unpacks bytes buffer symbols (Ok h)
    → (before after : List ℕ) (answer : Result ℕ Refusal) → length before ≡ card_room h.shape → Packs h symbols before after answer
    → (answer ≡ Ok (length bytes)) × (take (length bytes) after ≡ bytes)
unpacked_packs bytes buffer symbols h small u before after answer e p =
    let back = pack_unpacked symbol_values bytes (length buffer) h symbols small (sym u.returned) in
    rw (← back.0) (written h symbols before after answer p (ap (pack_refusal symbol_values h symbols) e ∙ back.1))

-- ---- document 02 §9, about the promises of the calls

-- a card of the old form, that is, one that does not start with 1, is read as by the reader of before, with no hearing number: the same
-- header and symbols, or the same number
pub read_as_before : (bytes buffer : List ℕ) → get_or bytes 0 0 ≢ hearing_lead → (buffer' : List ℕ) (answer : Result Header Refusal) → Unpacks bytes buffer buffer' answer
    → reading_of answer buffer' ≡ unpacked_before most_groups symbol_values bytes (length buffer)
read_as_before bytes buffer other buffer' answer u = u.returned ∙ plain_as_before most_groups symbol_values bytes (length buffer) other

-- "Cards accepted until now read as before" (document 02 §7): what the reader of before accepted, with numbers of three groups until then, is
-- unpacked to the same header, without a hearing number, and symbols. (The reader of until then had n at most 12 besides, and accepted
-- some of these cards alone.)
pub accepted_before : (groups : ℕ) → groups ≤ most_groups → (bytes buffer : List ℕ) (h : Header) (symbols : List ℕ) → unpacked_before groups symbol_values bytes (length buffer) ≡ card h symbols
    → (buffer' : List ℕ) (answer : Result Header Refusal) → Unpacks bytes buffer buffer' answer → (answer ≡ Ok h) × (buffer' ≡ symbols)
accepted_before groups l bytes buffer h symbols e buffer' answer u =
    answered h buffer' symbols answer (u.returned
    ∙ unpacked_wider groups most_groups l symbol_values bytes (length buffer) h symbols (plain_as_before groups symbol_values bytes (length buffer) (before_plain groups symbol_values bytes (length buffer) h symbols e) ∙ e))

-- "Programs from before §9 meet that leading 1 as a bad n and return 1.": whatever was packed with a hearing number, for readers of any
-- number of groups and any buffer
pub packed_before : (h : Header) (symbols before after : List ℕ) (long : ℕ) → h.hearing ≢ 0 → Packs h symbols before after (Ok long) → (groups room : ℕ)
    → unpacked_before (suc groups) symbol_values (take long after) room ≡ refused 1
packed_before h symbols before after long heard p groups room =
    let w = written h symbols before after (Ok long) p (sym p.number) in
    let same : long ≡ length (card_bytes h symbols) = cc in
    ap (λ l. unpacked_before (suc groups) symbol_values l room) (ap (λ n. take n after) same ∙ w.1)
    ∙ heard_before groups 0 h symbols (pack_accepted symbol_values h symbols (length before) (sym p.number)).headed (omega (arith, heard)) symbol_values room
