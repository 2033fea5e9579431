-- Unpacking keeps its promise: where it turns back at the header's form, at the header, at the symbols, and where it does not.
use mathlib.Core.Path.{◌≡◌, refl, sym, ap, ap₂, ◌∙◌}
use mathlib.Core.List.{List}
use Prim.Native.Nat.{ℕ, zero, suc}
use native.Mathlib.Omega.{arith}
use lib.ListN.{length, drop}
use Rattle.shape.specs.declared.Refusal.{Refusal}
use Rattle.shape.specs.declared.Refusal.TheVariants.{Malformed}
use Rattle.shape.specs.Shape.{symbol_values, size}
use Rattle.shape.specs.Refusals.{number_of}
use Rattle.shape.proofs.Answers.{number_positive}
use Rattle.card.specs.declared.Header.{Header}
use Rattle.std.specs.Prelude.{None, Ok, Err}
use Rattle.numbers.specs.Numbers.{most_groups, Numbers, values, broken}
use Rattle.card.specs.Cards.{front_by, header_refusal, Symbols, bad, got, symbols_number, symbols_read, read_symbols, refused, card, judged, header_by, unpacked, unpacked_by, front_of, fronted}
use Rattle.card.specs.Promises.{reading_number, reading_symbols, Unpacks}
use Rattle.card.proofs.Judging.{header_accepted}
use Rattle.card.proofs.Fronts.{front_count_lem}
use Rattle.card.proofs.Reading.{fronted_same, numbers_behind, symbols_good}

module _ (bytes before : List ℕ) where
  -- by what is unpacked
  refuses : (cause : Refusal) → unpacked symbol_values bytes (length before) ≡ refused (number_of cause) → Unpacks bytes before before (Err cause)
  unfolding reading_number reading_symbols
  refuses cause e = record { number = sym (ap reading_number e); returned = sym e; buffer = sym (ap (reading_symbols before) e) }

  pub unpacks_broken : front_of (length bytes) (front_by most_groups bytes) ≡ None → Unpacks bytes before before (Err Malformed)
  unfolding unpacked_by header_by front_of
  unpacks_broken e = refuses Malformed (go (front_by most_groups bytes) e)
    where
      go : (n : Numbers) → front_of (length bytes) n ≡ None → header_by most_groups symbol_values (length before) n ≡ refused 6
      go broken q = refl
      go (values xs rest) q = absurd (let z : ◌≡◌ {A = ℕ} 0 1 = cc in omega arith)

  -- the header was read, and the symbols start at a place
  module _ (header : Header) (least next : ℕ) (read : front_of (length bytes) (front_by most_groups bytes) ≡ fronted header least next) where
    behind_header : unpacked symbol_values bytes (length before)
        ≡ judged header (header_refusal least header (length before) 0) (read_symbols symbol_values (size header.shape) (drop next bytes))
    unfolding unpacked_by header_by front_of
    behind_header = go (front_by most_groups bytes) refl read
      where
        go : (n : Numbers) → front_by most_groups bytes ≡ n → front_of (length bytes) n ≡ fronted header least next
            → header_by most_groups symbol_values (length before) n
            ≡ judged header (header_refusal least header (length before) 0) (read_symbols symbol_values (size header.shape) (drop next bytes))
        go broken d q = absurd (let z : ◌≡◌ {A = ℕ} 0 1 = cc in omega arith)
        go (values xs rest) d q =
            let same = fronted_same q in
            let e₄ : rest ≡ drop next bytes = numbers_behind _ bytes 0 xs rest (front_count_lem most_groups bytes xs rest d) ∙ ap (λ k. drop k bytes) same.2 in
            rw (same.0, same.1, ← e₄)

    pub unpacks_header : (cause : Refusal) → number_of cause ≡ header_refusal least header (length before) 0 → Unpacks bytes before before (Err cause)
    unpacks_header cause e = refuses cause (behind_header ∙ go _ _ e)
      where
        go : (number : ℕ) (s : Symbols) → number_of cause ≡ number → judged header number s ≡ refused (number_of cause)
        go zero s e = absurd (omega (arith, number_positive cause))
        go (suc number) s e = unfold judged in ap refused (sym e)

    -- the header is judged, so that the buffer has the symbols' number
    module _ (good : header_refusal least header (length before) 0 ≡ 0) where
      behind_judged : unpacked symbol_values bytes (length before) ≡ judged header 0 (read_symbols symbol_values (length before) (drop next bytes))
      behind_judged =
          let long = (header_accepted least header (length before) 0 good).0.long in
          behind_header ∙ ap₂ (λ number count. judged header number (read_symbols symbol_values count (drop next bytes))) good (sym long)

      pub unpacks_symbols : (cause : Refusal) → number_of cause ≡ symbols_number (read_symbols symbol_values (length before) (drop next bytes))
          → Unpacks bytes before before (Err cause)
      unpacks_symbols cause e = refuses cause (behind_judged ∙ go _ e)
        where
          go : (s : Symbols) → number_of cause ≡ symbols_number s → judged header 0 s ≡ refused (number_of cause)
          go (bad number) e = unfold judged in ap refused (sym (unfold symbols_number in e))
          go (got xs) e = absurd (unfold symbols_number in omega (arith, e, number_positive cause))

      pub unpacks_done : (after : List ℕ) → symbols_number (read_symbols symbol_values (length before) (drop next bytes)) ≡ 0
          → after ≡ symbols_read (read_symbols symbol_values (length before) (drop next bytes)) → Unpacks bytes before after (Ok header)
      unfolding reading_number reading_symbols judged
      unpacks_done after e d =
          let whole : unpacked symbol_values bytes (length before) ≡ card header after =
          behind_judged ∙ ap (judged header 0) (symbols_good symbol_values (length before) (drop next bytes) e) ∙ ap (card header) (sym d) in
          record { number = sym (ap reading_number whole); returned = sym whole; buffer = sym (ap (reading_symbols before) whole) }
