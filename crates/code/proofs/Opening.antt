-- Opening: when the data symbols are a transcript's, and the bytes that they are.
use mathlib.Core.Path.{◌≡◌, refl, sym, ap, ◌∙◌}
use mathlib.Core.Logic.{◌⊎◌, inl, inr}
use mathlib.Core.Bool.{Bool, true, false, not}
use mathlib.Core.List.{List}
use Prim.Native.Nat.{ℕ, ◌*◌, ◌≤◌, ◌<◌}
use native.Mathlib.Omega.{arith}
use borrow.Author.Tests.{lt-ltb, le-ltb, ltb-true, eq-eqb, eqb-true}
use lib.Dec.{ltb, eqb}
use lib.ListN.{length, get_or, take}
use lib.Seq.{ext_get_or, get_or-take, length-take-le}
use Rattle.lists.proofs.Tests.{below_or_not, cond_true, cond_false}
use Rattle.shape.specs.declared.Shape.{Shape}
use Rattle.shape.specs.Shape.{size, byte_values}
use Rattle.shape.specs.Refusals.{refuse}
use Rattle.code.specs.Code.{narrow}
use Rattle.code.specs.Archive.{data_of, is_transcript}
use Rattle.code.specs.Refusals.{data_refusal}
use Rattle.code.specs.Steps.{data_fits}
use Rattle.code.proofs.Opened.{Split, split_iff, opened_length}
use Rattle.code.proofs.Accepted.{Openable}

-- a data symbol that may stand where it does: a byte within the length, and 0 beyond it
module _ (len e x : ℕ) where
  fits_within : e < len → data_fits len e x ≡ ltb x byte_values
  unfolding data_fits
  fits_within h = cond_true _ _ _ (lt-ltb e len h)

  fits_beyond : len ≤ e → data_fits len e x ≡ eqb x 0
  unfolding data_fits
  fits_beyond h = cond_false _ _ _ (le-ltb e len h)

  pub byte_fits : e < len → x < byte_values → data_fits len e x ≡ true
  byte_fits h l = fits_within h ∙ lt-ltb x byte_values l

  pub fits_byte : e < len → data_fits len e x ≡ true → x < byte_values
  fits_byte h z = ltb-true x byte_values (sym (fits_within h) ∙ z)

  pub zero_fits : len ≤ e → x ≡ 0 → data_fits len e x ≡ true
  zero_fits h z = fits_beyond h ∙ eq-eqb x 0 z

  pub fits_zero : len ≤ e → data_fits len e x ≡ true → x ≡ 0
  fits_zero h z = eqb-true x 0 (sym (fits_beyond h) ∙ z)

module _ (s : Shape) (list symbols : List ℕ) (len room : ℕ) (able : Openable s list symbols len room) where
  abbrev opened : List ℕ
  opened = data_of narrow s list symbols

  -- all data symbols may stand where they do
  abbrev AllFit : Type 0
  AllFit = (e : ℕ) → e < s.k * size s → data_fits len e (get_or opened e 0) ≡ true

  long : length opened ≡ s.k * size s
  long = opened_length narrow s list symbols able.given

  taken_length : length (take len (data_of narrow s list symbols)) ≡ len
  taken_length = length-take-le len opened (omega (arith, long, able.fits))

  -- they are a transcript's then
  fit_transcript : AllFit → is_transcript len opened ≡ true
  fit_transcript fit = (split_iff len opened (omega (arith, long, able.fits))).1 (record {
    low = λ b h. fits_byte len b _ h (fit b (omega (arith, able.fits)));
    rest = λ e l h. fits_zero len e _ l (fit e (omega (arith, long)));
  })

  -- and only then
  transcript_fit : is_transcript len opened ≡ true → AllFit
  transcript_fit t e h = go (below_or_not e len)
    where
      split : Split len opened
      split = (split_iff len opened (omega (arith, long, able.fits))).0 t

      go : (e < len) ⊎ (len ≤ e) → data_fits len e (get_or opened e 0) ≡ true
      go (inl l) = byte_fits len e _ l (split.low e l)
      go (inr l) = zero_fits len e _ l (split.rest e l (omega (arith, long)))

  pub fit_all : ((e : ℕ) → e < s.k * size s → data_fits len e (get_or (data_of narrow s list symbols) e 0) ≡ true) → data_refusal narrow s list symbols len ≡ 0
  unfolding data_refusal
  fit_all fit = ap (λ t. refuse (not t) 7 0) (fit_transcript fit)

  pub fit_not_all : (((e : ℕ) → e < s.k * size s → data_fits len e (get_or (data_of narrow s list symbols) e 0) ≡ true) → ⊥) → data_refusal narrow s list symbols len ≡ 7
  unfolding data_refusal
  fit_not_all off = go (is_transcript len opened) refl
    where
      go : (t : Bool) → is_transcript len opened ≡ t → refuse (not (is_transcript len opened)) 7 0 ≡ 7
      go true z = absurd (off (transcript_fit z))
      go false z = rw z

  -- the bytes that were stored
  pub opened_end : (bytes : List ℕ) → length bytes ≡ len → ((e : ℕ) → e < len → get_or bytes e 0 ≡ get_or (data_of narrow s list symbols) e 0)
      → bytes ≡ take len (data_of narrow s list symbols)
  opened_end bytes e w =
      ext_get_or 0 bytes (take len opened) (e ∙ sym taken_length) (λ b h. w b (omega arith) ∙ sym (get_or-take len opened b 0 (omega arith)))
