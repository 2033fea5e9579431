-- A signed change: its tests, its residue, and a symbol plus the change.
use mathlib.Core.Path.{◌≡◌, refl, sym, ap, ◌∙◌}
use mathlib.Core.Bool.{Bool, true, false, cond, not, ◌&&◌, ◌||◌, false≢true}
use Prim.Native.Nat.{ℕ, suc, ◌+◌, ◌-◌, ◌*◌, ◌/◌, ◌%◌, ◌≤◌, ◌<◌}
use native.Mathlib.Nat.{mod-lt, mod-eq_of_lt, add-mod-mod, mod-add-div, add-mul-mod_self_left, zero-add}
use native.Mathlib.Omega.{arith}
use borrow.Author.Tests.{ltb-true, ltb-false, lt-ltb, le-ltb, not-false}
use lib.Dec.{ltb}
use lib.IntN.{ℤ, pos, negsuc, ◌+ℤ◌, nat_abs, pos-ne-negsuc}
use lib.Signed.{lt_z, mag}
use Rattle.std.proofs.Common.{is_le, Less, Equal, Greater}
use Rattle.lists.proofs.Tests.{both}
use Rattle.field.specs.Residues.{minus}
use Rattle.shape.specs.Shape.{byte_values}
use Rattle.correcting.specs.Signed.{to_residue, is_change, is_byte, change_bad, to_number, moved}

-- ---- the tests, as a machine makes them

pub below_range : (x : ℕ) (z : ℤ) → lt_z z (negsuc 254) ≡ true → change_bad x z ≡ true
unfolding change_bad is_change
below_range x (pos n) e = absurd (false≢true e)
below_range x (negsuc n) e = ap (λ b. not (b && is_byte (pos x +ℤ negsuc n))) (le-ltb (suc n) 256 (omega (arith, ltb-true 254 n e)))

-- the test of the range, as the comparisons of its two ends
pub range_tested : (z : ℤ)
    → (is_le (cond (lt_z (negsuc 254) z) Less (cond (lt_z z (negsuc 254)) Greater Equal)) && is_le (cond (lt_z z (pos 255)) Less (cond (lt_z (pos 255) z) Greater Equal))) ≡ is_change z
unfolding is_change
range_tested (pos n) = go (ltb n 255) (ltb 255 n) refl refl
  where
    go : (p q : Bool) → ltb n 255 ≡ p → ltb 255 n ≡ q → is_le (cond p Less (cond q Greater Equal)) ≡ ltb n 256
    go true q e f = sym (lt-ltb n 256 (omega (arith, ltb-true n 255 e)))
    go false true e f = sym (le-ltb n 256 (omega (arith, ltb-true 255 n f)))
    go false false e f = sym (lt-ltb n 256 (omega (arith, ltb-false n 255 e, ltb-false 255 n f)))
range_tested (negsuc n) = go (ltb n 254) (ltb 254 n) refl refl
  where
    go : (p q : Bool) → ltb n 254 ≡ p → ltb 254 n ≡ q → (is_le (cond p Less (cond q Greater Equal)) && true) ≡ ltb (suc n) 256
    go true q e f = sym (lt-ltb (suc n) 256 (omega (arith, ltb-true n 254 e)))
    go false true e f = sym (le-ltb (suc n) 256 (omega (arith, ltb-true 254 n f)))
    go false false e f = sym (lt-ltb (suc n) 256 (omega (arith, ltb-false n 254 e, ltb-false 254 n f)))

pub out_of_range : (x : ℕ) (z : ℤ) → is_change z ≡ false → change_bad x z ≡ true
unfolding change_bad
out_of_range x z e = ap (λ b. not (b && is_byte (pos x +ℤ z))) e

byte_tested : (y : ℤ) → (lt_z y (pos 0) || lt_z (pos 255) y) ≡ not (is_byte y)
unfolding is_byte
byte_tested (pos n) = go (ltb n 256) refl
  where
    go : (b : Bool) → ltb n 256 ≡ b → (ltb n 0 || ltb 255 n) ≡ not b
    go true e = simp (le-ltb n 0 (omega arith), le-ltb 255 n (omega (arith, ltb-true n 256 e)))
    go false e = simp (le-ltb n 0 (omega arith), lt-ltb 255 n (omega (arith, ltb-false n 256 e)))
byte_tested (negsuc n) = refl

-- a symbol plus a change within its range
pub sum_tested : (x : ℕ) (z : ℤ) → is_change z ≡ true → (lt_z (pos x +ℤ z) (pos 0) || lt_z (pos 255) (pos x +ℤ z)) ≡ change_bad x z
unfolding change_bad
sum_tested x z range = byte_tested (pos x +ℤ z) ∙ sym (ap (λ b. not (b && is_byte (pos x +ℤ z))) range)

-- it is not large
pub sum_low : (x : ℕ) (z : ℤ) → is_change z ≡ true → mag (pos x +ℤ z) < x + 256
unfolding is_change
sum_low x (pos n) e = omega (arith, ltb-true n 256 e)
sum_low x (negsuc n) e = go (ltb x (suc n)) refl
  where
    go : (b : Bool) → ltb x (suc n) ≡ b → mag (cond b (negsuc (suc n - suc x)) (pos (x - suc n))) < x + 256
    go true l = omega (arith, ltb-true (suc n) 256 e)
    go false l = omega arith

-- ---- a change that is accepted

byte_is : (z : ℤ) → is_byte z ≡ true → (z ≡ pos (to_number z)) × (to_number z < byte_values)
unfolding is_byte to_number
byte_is (pos n) e = (refl, ltb-true n byte_values e)
byte_is (negsuc n) e = absurd (false≢true e)

pub record Change (x : ℕ) (z : ℤ) : Type 0 where
  pub range : is_change z ≡ true
  pub is : pos x +ℤ z ≡ pos (moved x z)
  pub low : moved x z < byte_values

pub change_accepted : (x : ℕ) (z : ℤ) → change_bad x z ≡ false → Change x z
unfolding change_bad moved
change_accepted x z e =
    let w = both (is_change z) (is_byte (pos x +ℤ z)) (not-false _ e) in
    let v = byte_is (pos x +ℤ z) w.1 in
    record { range = w.0; is = v.0; low = v.1 }

-- ---- the residue

pub residue_small : (q : ℕ) (z : ℤ) → 0 < q → to_residue q z < q
unfolding to_residue minus
residue_small q (pos n) o = mod-lt n o
residue_small q (negsuc n) o = mod-lt _ o

-- adding the residue is adding the change
pub residue_moves : (q x : ℕ) (z : ℤ) (y : ℕ) → 0 < q → pos x +ℤ z ≡ pos y → (x + to_residue q z) % q ≡ y % q
unfolding to_residue minus
residue_moves q x (pos n) y o e = add-mod-mod x n q ∙ ap (λ k. nat_abs k % q) e
residue_moves q x (negsuc n) y o e = go (ltb x (suc n)) refl e
  where
    go : (b : Bool) → ltb x (suc n) ≡ b → cond b (negsuc (suc n - suc x)) (pos (x - suc n)) ≡ pos y → (x + (0 + (q - suc n % q)) % q) % q ≡ y % q
    go true l e = absurd (pos-ne-negsuc y _ (sym e))
    go false l e = add-mod-mod x _ q ∙ ap (λ k. k % q) whole ∙ add-mul-mod_self_left y q (suc n / q + 1)
      where
        whole : x + (0 + (q - suc n % q)) ≡ y + q * (suc n / q + 1)
        whole = omega (arith, ltb-false x (suc n) l, ap nat_abs e, mod-add-div (suc n) q, mod-lt (suc n) o)

-- a change plus the modulus is not below 0
pub change_raised : (q : ℕ) (z : ℤ) → 255 ≤ q → is_change z ≡ true → pos q +ℤ z ≡ pos (moved q z)
unfolding is_change moved to_number
change_raised q (pos n) h e = refl
change_raised q (negsuc n) h e = go (ltb q (suc n)) refl
  where
    go : (b : Bool) → ltb q (suc n) ≡ b
        → cond b (negsuc (suc n - suc q)) (pos (q - suc n)) ≡ pos (to_number (cond b (negsuc (suc n - suc q)) (pos (q - suc n))))
    go true g = absurd (omega (arith, ltb-true q (suc n) g, ltb-true (suc n) 256 e))
    go false g = refl

-- and has the change's residue
pub residue_by_sum : (q : ℕ) (z : ℤ) (y : ℕ) → 0 < q → pos q +ℤ z ≡ pos y → to_residue q z ≡ y % q
residue_by_sum q z y o e =
    sym (mod-eq_of_lt (residue_small q z o)) ∙ sym (ap (λ k. k % q) (omega arith) ∙ add-mul-mod_self_left (to_residue q z) q 1) ∙ residue_moves q q z y o e

-- "exact at zero": the residue is zero only there
pub residue_zero : (q : ℕ) (z : ℤ) → byte_values ≤ q → is_change z ≡ true → to_residue q z ≡ 0 → nat_abs z ≡ 0
unfolding to_residue minus is_change
residue_zero q (pos n) wide r e = sym (mod-eq_of_lt (omega (arith, ltb-true n 256 r))) ∙ e
residue_zero q (negsuc n) wide r e = absurd (omega (arith, e, value, low))
  where
    low : suc n < q
    low = omega (arith, ltb-true (suc n) 256 r)

    value : (0 + (q - suc n % q)) % q ≡ q - suc n
    value = ap (λ k. (0 + (q - k)) % q) (mod-eq_of_lt low) ∙ ap (λ k. k % q) (zero-add (q - suc n)) ∙ mod-eq_of_lt (omega (arith, low))

pub zero_residue : (q : ℕ) (z : ℤ) → 0 < q → nat_abs z ≡ 0 → to_residue q z ≡ 0
unfolding to_residue
zero_residue q (pos n) o e = ap (λ k. k % q) e ∙ mod-eq_of_lt o
zero_residue q (negsuc n) o e = absurd (omega (arith, e))

-- "and at both ends"
pub residue_ends : (to_residue 257 (pos 0) ≡ 0) × (to_residue 257 (pos 255) ≡ 255) × (to_residue 257 (negsuc 254) ≡ 2)
unfolding to_residue minus
residue_ends = (refl, refl, refl)
