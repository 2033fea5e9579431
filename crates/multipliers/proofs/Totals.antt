-- Sums in a ring.
use mathlib.Core.Path.{◌≡◌, refl, sym, ap, ap₂, ◌∙◌}
use Prim.Native.Nat.{ℕ, zero, suc, ◌<◌}
use native.Mathlib.Omega.{arith}
use Rattle.lists.specs.Sums.{sum}
use Rattle.field.specs.Residues.{Prime}
use Rattle.field.proofs.Ring.{Ring, ring}
use Rattle.field.proofs.Residues.{res_add, zero_is}
use Rattle.field.proofs.Fields.{pos, R}
use Rattle.field.proofs.Bridge.{r as residue}

module _ {F : Type 0} (R : Ring F) where
  open R use {𝟘, 𝟙, ◌⊕◌, ◌⊖◌, ◌⊗◌}

  infixl 65 ◌⊕◌
  infixl 65 ◌⊖◌
  infixl 70 ◌⊗◌
  -- f 0 + .. + f (n - 1)
  unfoldable pub total : ℕ → (ℕ → F) → F
  total zero f = 𝟘
  total (suc n) f = total n f ⊕ f n

  pub total_none : (f : ℕ → F) → total zero f ≡ 𝟘
  unfolding total
  total_none f = refl

  pub total_suc : (n : ℕ) (f : ℕ → F) → total (suc n) f ≡ total n f ⊕ f n
  unfolding total
  total_suc n f = refl

  pub total_ext : (n : ℕ) (f g : ℕ → F) → ((i : ℕ) → i < n → f i ≡ g i) → total n f ≡ total n g
  unfolding total
  total_ext zero f g h = refl
  total_ext (suc n) f g h = ap₂ ◌⊕◌ (total_ext n f g (λ i l. h i (omega arith))) (h n (omega arith))

  step : (a b c y d : F) → b ⊖ y ⊗ c ⊕ (a ⊖ y ⊗ d) ≡ b ⊕ a ⊖ y ⊗ (c ⊕ d)
  step a b c y d = simp ring

  none : (y : F) → 𝟘 ≡ 𝟘 ⊖ y ⊗ 𝟘
  none y = simp ring

  -- a sum of differences
  pub total_less : (n : ℕ) (y : F) (a b : ℕ → F) → total n (λ i. a i ⊖ y ⊗ b i) ≡ total n a ⊖ y ⊗ total n b
  unfolding total
  total_less zero y a b = none y
  total_less (suc n) y a b = ap (λ u. u ⊕ (a n ⊖ y ⊗ b n)) (total_less n y a b) ∙ step (a n) (total n a) (total n b) y (b n)

  nothing : 𝟘 ⊕ 𝟘 ≡ 𝟘
  nothing = simp ring

  pub total_zero : (n : ℕ) → total n (λ i. 𝟘) ≡ 𝟘
  unfolding total
  total_zero zero = refl
  total_zero (suc n) = ap (λ u. u ⊕ 𝟘) (total_zero n) ∙ nothing

-- a sum of numbers as a residue
pub total_is : (q : ℕ) (prime : Prime q) (n : ℕ) (f : ℕ → ℕ) → residue q prime (sum n f) ≡ total (R q prime) n (λ i. residue q prime (f i))
unfolding sum
total_is q prime zero f = sym (total_none (R q prime) _ ∙ zero_is q (pos q prime))
total_is q prime (suc n) f =
    res_add q (pos q prime) _ _ ∙ ap (λ u. (R q prime).◌⊕◌ u (residue q prime (f n))) (total_is q prime n f) ∙ sym (total_suc (R q prime) n _)
