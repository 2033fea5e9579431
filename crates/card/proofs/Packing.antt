-- Packing keeps its promise: where it turns back, and where the header's numbers and then the symbols are written from the front of the buffer.
use Rattle.std.specs.Prelude.{Ok, Err}
use mathlib.Core.Path.{◌≡◌, sym, ap, ◌∙◌}
use mathlib.Core.Bool.{true}
use mathlib.Core.List.{List, [], ◌∷◌, flat_map}
use Prim.Native.Nat.{ℕ, ◌+◌, ◌^◌, ◌≤◌}
use native.Mathlib.Omega.{arith}
use lib.ListN.{length, length-append}
use lib.Seq.{sets, length-sets}
use Rattle.lists.specs.Lists.{all, below}
use Rattle.lists.proofs.Writing.{sets_append, sets_front}
use Rattle.shape.specs.Shape.{symbol_values}
use Rattle.shape.specs.declared.Refusal.{Refusal}
use Rattle.shape.specs.Refusals.{number_of}
use Rattle.shape.proofs.Answers.{afterwards_done, afterwards_refused}
use Rattle.card.specs.declared.Header.{Header}
use Rattle.numbers.specs.Numbers.{most_groups, group_values, numeral}
use Rattle.card.specs.Cards.{header_numbers, card_bytes, pack_refusal}
use Rattle.card.specs.Promises.{over, Packs}
use Rattle.card.proofs.Judging.{pack_accepted}
use Rattle.card.proofs.Cards.{header_small, card_parts, card_fits}

-- the bytes of some numbers
abbrev numerals : List ℕ → List ℕ
numerals vs = flat_map (numeral most_groups) vs

-- the numbers of a header in the form that its hearing number fixes
module _ (h : Header) (vs : List ℕ) (same : header_numbers h ≡ vs) (before : List ℕ) where
  pub form_fits : (all (below (group_values ^ most_groups)) (header_numbers h) ≡ true) × (length (numerals (header_numbers h)) ≤ length before)
      → (all (below (group_values ^ most_groups)) vs ≡ true) × (0 + length (numerals vs) ≤ length before)
  form_fits w = rw (← same) (w.0, omega (arith, w.1))

  pub form_written : (end : ℕ) (after : List ℕ) → (end ≡ 0 + length (numerals vs)) × (after ≡ sets before 0 (numerals vs))
      → (end ≡ length (numerals (header_numbers h))) × (after ≡ sets before 0 (numerals (header_numbers h)))
  form_written end after w = rw same (omega (arith, w.0), w.1)

module _ (h : Header) (symbols before : List ℕ) where
  pub packs_refused : (cause : Refusal) → number_of cause ≡ pack_refusal symbol_values h symbols (length before) → Packs h symbols before before (Err cause)
  packs_refused cause e = record { number = e; returned = sym (afterwards_refused [] _ cause _ e); buffer = sym (afterwards_refused before _ cause _ e) }

  module _ (taken : pack_refusal symbol_values h symbols (length before) ≡ 0) where
    fits : length (numerals (header_numbers h)) + length (numerals symbols) ≤ length before
    fits =
        let p = pack_accepted symbol_values h symbols (length before) taken in
        omega (
          arith,
          p.roomy,
          card_fits symbol_values (omega arith) h symbols (length before) taken,
          ap length (card_parts h symbols) ∙ length-append (numerals (header_numbers h)) (numerals symbols),
        )

    pub header_fits : (all (below (group_values ^ most_groups)) (header_numbers h) ≡ true) × (length (numerals (header_numbers h)) ≤ length before)
    header_fits = (header_small 0 h (length symbols) (pack_accepted symbol_values h symbols (length before) taken).headed, omega (arith, fits))

    -- the header's numbers are written
    module _ (at : ℕ) (half : List ℕ) (behind : at ≡ length (numerals (header_numbers h))) (head : half ≡ sets before 0 (numerals (header_numbers h))) where
      pub symbols_fit : at + length (numerals symbols) ≤ length half
      symbols_fit = omega (arith, fits, ap length head ∙ length-sets before 0 (numerals (header_numbers h)))

      pub packs_done : (long : ℕ) (after : List ℕ) → long ≡ at + length (numerals symbols) → after ≡ sets half at (numerals symbols)
          → Packs h symbols before after (Ok long)
      unfolding over
      packs_done long after e d =
          let parts = card_parts h symbols in
          let both = ap length parts ∙ length-append (numerals (header_numbers h)) (numerals symbols) in
          let short : long ≡ length (card_bytes h symbols) = omega arith in
          let whole : sets before 0 (card_bytes h symbols) ≡ after =
          ap (sets before 0) parts ∙ sets_append (numerals (header_numbers h)) (numerals symbols) before 0 ∙ rw (← (let b : at ≡ 0 + length (numerals (header_numbers h)) = omega arith in b), ← head) (sym d) in
          record {
            number = sym taken;
            returned = ap (λ n. n ∷ []) short ∙ sym (afterwards_done [] _ _ taken);
            buffer = sym whole ∙ sets_front (card_bytes h symbols) before (omega (arith, fits)) ∙ sym (afterwards_done before _ _ taken);
          }
