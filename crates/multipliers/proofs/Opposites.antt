-- A multiplier stays where every point that it reads turns into its opposite: each difference turns, and both products have as many.
use mathlib.Core.Path.{◌≡◌, refl, sym, ap, ap₂, ◌∙◌}
use mathlib.Core.Logic.{◌≢◌}
use mathlib.Core.Bool.{Bool, true, false}
use mathlib.Core.List.{List}
use Prim.Native.Nat.{ℕ, zero, suc, ◌+◌, ◌%◌, ◌≤◌, ◌<◌}
use native.Mathlib.Omega.{arith}
use lib.ListN.{length, get_or}
use Rattle.lists.specs.Lists.{member, rising}
use Rattle.field.specs.Residues.{Prime}
use Rattle.field.proofs.Ring.{Ring, Field, ring, div_intro}
use Rattle.field.proofs.Residues.{Residue, res_add, res_zero}
use Rattle.field.proofs.Fields.{pos, R}
use Rattle.field.proofs.Bridge.{r as residue, K as field, res_inj}
use Rattle.column.specs.Column.{Points}
use Rattle.multipliers.specs.Multipliers.{left_out, differences, multiplier}
use Rattle.multipliers.proofs.Multipliers.{left_none, differences_none, differences_left, next_is, lasts, multiplier_is, multiplier_small}

module _ {F : Type 0} (R : Ring F) where
  open R use {𝟘, 𝟙, ◌⊕◌, ◌⊖◌, ◌⊗◌}

  infixl 65 ◌⊕◌
  infixl 65 ◌⊖◌
  infixl 70 ◌⊗◌
  negative : (x y : F) → x ⊕ y ≡ 𝟘 → y ≡ 𝟘 ⊖ x
  negative x y e = back ∙ ap (λ u. u ⊖ x) e
    where
      back : y ≡ x ⊕ y ⊖ x
      back = simp ring

  turned_difference : (x p : F) → 𝟘 ⊖ x ⊖ (𝟘 ⊖ p) ≡ 𝟘 ⊖ (x ⊖ p)
  turned_difference x p = simp ring

  -- two products and their counterparts, and a factor more in each
  crossed : (a b c d x y : F) → a ⊗ d ≡ c ⊗ b → a ⊗ x ⊗ (d ⊗ (𝟘 ⊖ y)) ≡ c ⊗ (𝟘 ⊖ x) ⊗ (b ⊗ y)
  crossed a b c d x y e = whole ∙ ap (λ u. (𝟘 ⊖ u) ⊗ (x ⊗ y)) e ∙ back
    where
      whole : a ⊗ x ⊗ (d ⊗ (𝟘 ⊖ y)) ≡ (𝟘 ⊖ a ⊗ d) ⊗ (x ⊗ y)
      whole = simp ring

      back : (𝟘 ⊖ c ⊗ b) ⊗ (x ⊗ y) ≡ c ⊗ (𝟘 ⊖ x) ⊗ (b ⊗ y)
      back = simp ring

module _ {F : Type 0} {R : Ring F} (K : Field R) where
  open R use {𝟘, 𝟙, ◌⊕◌, ◌⊖◌, ◌⊗◌}

  infixl 65 ◌⊖◌
  infixl 70 ◌⊗◌
  same_quotient : (t b t' b' : F) → b ≢ 𝟘 → b' ≢ 𝟘 → t ⊗ b' ≡ t' ⊗ b → (𝟘 ⊖ t) ⊗ K.inv b ≡ (𝟘 ⊖ t') ⊗ K.inv b'
  same_quotient t b t' b' h h' e = div_intro K _ b' _ h' (whole ∙ ap (λ u. (𝟘 ⊖ u) ⊗ K.inv b) e ∙ part ∙ ap (λ u. (𝟘 ⊖ t') ⊗ u) (K.mul_inv b h) ∙ end)
    where
      whole : b' ⊗ ((𝟘 ⊖ t) ⊗ K.inv b) ≡ (𝟘 ⊖ t ⊗ b') ⊗ K.inv b
      whole = simp ring

      part : (𝟘 ⊖ t' ⊗ b) ⊗ K.inv b ≡ (𝟘 ⊖ t') ⊗ (b ⊗ K.inv b)
      part = simp ring

      end : (𝟘 ⊖ t') ⊗ 𝟙 ≡ 𝟘 ⊖ t'
      end = simp ring

module _ (q : ℕ) (prime : Prime q) (ps ps' : List ℕ) (points : Points q ps) (points' : Points q ps') (list : List ℕ)
    (up : rising 0 (length ps) list ≡ true) (up' : rising 0 (length ps') list ≡ true) (same : length ps' ≡ length ps)
    (i : ℕ) (within : i < length ps) (unlisted : member i list ≡ false)
    (turned : (e : ℕ) → e < length ps → member e list ≡ false → (get_or ps e 0 + get_or ps' e 0) % q ≡ 0) where
  open R q prime use {𝟘, 𝟙, ◌⊕◌, ◌⊖◌, ◌⊗◌}

  infixl 65 ◌⊖◌
  infixl 70 ◌⊗◌
  abbrev r : ℕ → Residue q
  r = residue q prime

  within' : i < length ps'
  within' = omega (arith, same)

  abbrev D : ℕ → ℕ → ℕ
  D x m = differences q ps list i x m

  abbrev D' : ℕ → ℕ → ℕ
  D' x m = differences q ps' list i x m

  opposite : (x y : ℕ) → (x + y) % q ≡ 0 → r y ≡ 𝟘 ⊖ r x
  opposite x y e = negative (R q prime) (r x) (r y) (sym (res_add q (pos q prime) x y) ∙ (res_zero q (pos q prime) (x + y)).0 e)

  -- one factor more of both kinds of products
  turns : (x x' m : ℕ) → r x' ≡ 𝟘 ⊖ r x → m < length ps → left_out list i m ≡ false → r (D' x' (suc m)) ≡ r (D' x' m) ⊗ (𝟘 ⊖ (r x ⊖ r (get_or ps m 0)))
  turns x x' m e h l =
      next_is q prime ps' points' list up' i within' unlisted x' m l
      ∙ ap (λ u. r (D' x' m) ⊗ u)
      (ap₂ (λ u v. u ⊖ v) e (opposite (get_or ps m 0) (get_or ps' m 0) (turned m h (left_none list i m l).0)) ∙ turned_difference (R q prime) (r x) (r (get_or ps m 0)))

  cross : (x y x' y' : ℕ) → r x' ≡ 𝟘 ⊖ r x → r y' ≡ 𝟘 ⊖ r y → (m : ℕ) → m ≤ length ps → r (D x m) ⊗ r (D' y' m) ≡ r (D' x' m) ⊗ r (D y m)
  cross x y x' y' ex ey zero h =
      ap₂ (λ u v. r u ⊗ r v) (differences_none q ps list i x ∙ sym (differences_none q ps' list i x'))
      (differences_none q ps' list i y' ∙ sym (differences_none q ps list i y))
  cross x y x' y' ex ey (suc m) h = go (left_out list i m) refl (cross x y x' y' ex ey m (omega arith))
    where
      go : (b : Bool) → left_out list i m ≡ b → r (D x m) ⊗ r (D' y' m) ≡ r (D' x' m) ⊗ r (D y m) → r (D x (suc m)) ⊗ r (D' y' (suc m)) ≡ r (D' x' (suc m)) ⊗ r (D y (suc m))
      go true l ih =
          ap₂ (λ u v. r u ⊗ r v) (differences_left q ps list i x m l) (differences_left q ps' list i y' m l) ∙ ih
          ∙ sym (ap₂ (λ u v. r u ⊗ r v) (differences_left q ps' list i x' m l) (differences_left q ps list i y m l))
      go false l ih =
          ap₂ ◌⊗◌ (next_is q prime ps points list up i within unlisted x m l) (turns y y' m ey (omega arith) l)
          ∙ crossed (R q prime) _ _ _ _ (r x ⊖ r (get_or ps m 0)) (r y ⊖ r (get_or ps m 0)) ih
          ∙ sym (ap₂ ◌⊗◌ (turns x x' m ex (omega arith) l) (next_is q prime ps points list up i within unlisted y m l))

  pub multiplier_opposite : (j : ℕ) → (get_or ps (get_or list j 0) 0 + get_or ps' (get_or list j 0) 0) % q ≡ 0 → multiplier q ps list i j ≡ multiplier q ps' list i j
  multiplier_opposite j e =
      res_inj q prime _ _ (multiplier_small q prime ps points list up i within unlisted j) (multiplier_small q prime ps' points' list up' i within' unlisted j)
      (multiplier_is q prime ps points list up i within unlisted j
      ∙ same_quotient (field q prime) _ _ _ _ (lasts q prime ps points list up i within unlisted (length ps) (omega arith))
      (lasts q prime ps' points' list up' i within' unlisted (length ps') (omega arith))
      (rw same (cross (get_or ps (get_or list j 0) 0) (get_or ps i 0) (get_or ps' (get_or list j 0) 0) (get_or ps' i 0) (opposite _ _ e) (opposite _ _ (turned i within unlisted)) (length ps) (omega arith)))
      ∙ sym (multiplier_is q prime ps' points' list up' i within' unlisted j))
