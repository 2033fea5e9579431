-- A loop that writes a list over a buffer from a place on, an element or a piece at a time: `sets old from xs` is what it leaves (lib.Seq).
use mathlib.Core.Path.{◌≡◌, refl, sym, ap, ◌∙◌}
use mathlib.Core.List.{List, [], ◌∷◌, ◌++◌}
use Prim.Native.Nat.{ℕ, suc, ◌+◌, ◌≤◌}
use native.Mathlib.Numerals.{add-one}
use native.Mathlib.Nat.{zero-add}
use native.Mathlib.Omega.{arith}
use lib.ListN.{length, set, drop, length-append, length-set}
use lib.Seq.{sets, length-sets, sets-eq}

module _ {A : Type 0} where
  pub sets_append : (xs ys old : List A) (at : ℕ) → sets old at (xs ++ ys) ≡ sets (sets old at xs) (at + length xs) ys
  sets_append [] ys old at = ap (λ k. sets old k ys) (let e : at ≡ at + 0 = omega arith in e)
  sets_append (x ∷ xs) ys old at =
      sets_append xs ys (set old at x) (suc at) ∙ ap (λ k. sets (sets (set old at x) (suc at) xs) k ys) (let e : suc at + length xs ≡ at + suc (length xs) = omega arith in e)

  -- from the front: the list, and behind it what was there
  pub sets_front : (xs old : List A) → length xs ≤ length old → sets old 0 xs ≡ xs ++ drop (length xs) old
  sets_front xs old h = sets-eq xs old 0 (omega arith) ∙ rw (zero-add (length xs))

  -- xs is written over `old` from a place on; `left` is still to come, at `at`, over `now`
  pub record Writing (xs old : List A) (from : ℕ) (left now : List A) (at : ℕ) : Type 0 where
    pub whole : sets old from xs ≡ sets now at left
    pub place : at + length left ≡ from + length xs
    pub long : length now ≡ length old

  pub writing_all : (xs old : List A) (from : ℕ) → Writing xs old from xs old from
  writing_all xs old from = record { whole = refl; place = refl; long = refl }

  module _ {xs old : List A} {from : ℕ} {left now : List A} {at : ℕ} (w : Writing xs old from left now at) where
    pub writing_next : (x : A) (rest : List A) → left ≡ x ∷ rest → Writing xs old from rest (set now at x) (at + 1)
    writing_next x rest e = record {
      whole = w.whole ∙ ap (sets now at) e ∙ ap (λ k. sets (set now at x) k rest) (sym (add-one at));
      place = omega (arith, w.place, ap length e);
      long = length-set now at x ∙ w.long;
    }

    pub writing_piece : (ys rest : List A) → left ≡ ys ++ rest → Writing xs old from rest (sets now at ys) (at + length ys)
    writing_piece ys rest e = record {
      whole = w.whole ∙ ap (sets now at) e ∙ sets_append ys rest now at;
      place = omega (arith, w.place, ap length e ∙ length-append ys rest);
      long = length-sets now at ys ∙ w.long;
    }

    -- there is room for what is still to come
    pub writing_room : from + length xs ≤ length old → at + length left ≤ length now
    writing_room h = omega (arith, w.place, w.long)

    pub writing_end : left ≡ [] → (at ≡ from + length xs) × (now ≡ sets old from xs)
    writing_end e = (omega (arith, w.place, ap length e), sym (w.whole ∙ ap (sets now at) e))
