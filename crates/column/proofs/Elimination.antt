-- Elimination of one point at a time from the Vandermonde equations: what is left is a triangle with no zero on its diagonal, and values
-- that meet the triangle's equations meet the equations.
use mathlib.Core.Path.{◌≡◌, refl, sym, ap, ap₂, ◌∙◌}
use mathlib.Core.Logic.{◌≢◌}
use Prim.Native.Nat.{ℕ, zero, suc, ◌+◌, ◌*◌, ◌%◌, ◌<◌}
use native.Mathlib.Numerals.{add-one}
use native.Mathlib.Omega.{arith}
use Rattle.field.specs.Residues.{minus}
use Rattle.field.proofs.Ring.{Ring, Field, ring, mul_ne_zero}
use Rattle.field.proofs.Powers.{pow, pow_suc}
use Rattle.column.specs.Solving.{less, eliminated, differences as number_differences}

-- ---- in numbers: one point more

pub less_ext : (q x : ℕ) (f g : ℕ → ℕ) (t : ℕ) → f t ≡ g t → f (t + 1) ≡ g (t + 1) → less q x f t ≡ less q x g t
unfolding less
less_ext q x f g t e d = ap₂ (λ a b. minus q a (x * b)) d e

pub eliminated_more : (q : ℕ) (points : ℕ → ℕ) (i : ℕ) (f : ℕ → ℕ) (t : ℕ)
    → eliminated q points (i + 1) f t ≡ less q (points i) (eliminated q points i f) t
unfolding eliminated
eliminated_more q points i f t = rw (add-one i)

-- what is left of equation t after i points goes by the equations t to t + i and the points before i
pub eliminated_ext : (q : ℕ) (p p' : ℕ → ℕ) (f g : ℕ → ℕ) (i t : ℕ) → ((l : ℕ) → l < i → p l ≡ p' l)
    → ((s : ℕ) → s < t + i + 1 → f s ≡ g s) → eliminated q p i f t ≡ eliminated q p' i g t
unfolding eliminated
eliminated_ext q p p' f g zero t hp hf = hf t (omega arith)
eliminated_ext q p p' f g (suc i) t hp hf =
    ap (λ x. less q x (eliminated q p i f) t) (hp i (omega arith))
    ∙ less_ext q (p' i) _ _ t
    (eliminated_ext q p p' f g i t (λ l h. hp l (omega arith)) (λ s h. hf s (omega arith)))
    (eliminated_ext q p p' f g i (t + 1) (λ l h. hp l (omega arith)) (λ s h. hf s (omega arith)))

pub differences_none_at : (q : ℕ) (points : ℕ → ℕ) (x : ℕ) → 1 ≡ number_differences q points 0 x
unfolding number_differences
differences_none_at q points x = refl

pub differences_next : (q : ℕ) (points : ℕ → ℕ) (i x p d : ℕ) → p ≡ number_differences q points i x → d ≡ minus q x (points i)
    → (p * d) % q ≡ number_differences q points (i + 1) x
unfolding number_differences
differences_next q points i x p d e f = rw (add-one i, e, f)

-- they go by the points before i
pub differences_ext : (q : ℕ) (p p' : ℕ → ℕ) (i x : ℕ) → ((l : ℕ) → l < i → p l ≡ p' l)
    → number_differences q p i x ≡ number_differences q p' i x
unfolding number_differences
differences_ext q p p' zero x h = refl
differences_ext q p p' (suc i) x h =
    ap₂ (λ d y. (d * minus q x y) % q) (differences_ext q p p' i x (λ l k. h l (omega arith))) (h i (omega arith))

-- ---- in a field

module _ {F : Type 0} (R : Ring F) where
  open R use {𝟘, 𝟙, ◌⊕◌, ◌⊖◌, ◌⊗◌}

  infixl 65 ◌⊕◌
  infixl 65 ◌⊖◌
  infixl 70 ◌⊗◌
  -- the sum of the m terms from i on
  unfoldable pub from : ℕ → ℕ → (ℕ → F) → F
  from i zero f = 𝟘
  from i (suc m) f = f i ⊕ from (suc i) m f

  pub from_none : (i : ℕ) (f : ℕ → F) → from i 0 f ≡ 𝟘
  unfolding from
  from_none i f = refl

  pub from_more : (i m : ℕ) (f : ℕ → F) → from i (suc m) f ≡ f i ⊕ from (suc i) m f
  unfolding from
  from_more i m f = refl

  from_split : (x : F) (a b y : ℕ → F) (i m : ℕ)
      → from i m (λ j. (a j ⊕ x ⊗ b j) ⊗ y j) ≡ from i m (λ j. a j ⊗ y j) ⊕ x ⊗ from i m (λ j. b j ⊗ y j)
  from_split x a b y i zero = simp from_none (simp ring)
  from_split x a b y i (suc m) = go (from_split x a b y (suc i) m)
    where
      go : from (suc i) m (λ j. (a j ⊕ x ⊗ b j) ⊗ y j) ≡ from (suc i) m (λ j. a j ⊗ y j) ⊕ x ⊗ from (suc i) m (λ j. b j ⊗ y j)
          → from i (suc m) (λ j. (a j ⊕ x ⊗ b j) ⊗ y j) ≡ from i (suc m) (λ j. a j ⊗ y j) ⊕ x ⊗ from i (suc m) (λ j. b j ⊗ y j)
      go ih = simp (from_more, ih) (simp ring)

  pub from_ext : (f g : ℕ → F) (i m : ℕ) → ((j : ℕ) → f j ≡ g j) → from i m f ≡ from i m g
  unfolding from
  from_ext f g i zero h = refl
  from_ext f g i (suc m) h = ap₂ ◌⊕◌ (h i) (from_ext f g (suc i) m h)

  -- a side of the equations after i points are eliminated
  unfoldable pub rest : (ℕ → F) → ℕ → (ℕ → F) → ℕ → F
  rest X zero f t = f t
  rest X (suc i) f t = rest X i f (suc t) ⊖ X i ⊗ rest X i f t

  pub rest_none : (X f : ℕ → F) (t : ℕ) → rest X 0 f t ≡ f t
  unfolding rest
  rest_none X f t = refl

  rest_more : (X f : ℕ → F) (i t : ℕ) → rest X (suc i) f t ≡ rest X i f (suc t) ⊖ X i ⊗ rest X i f t
  unfolding rest
  rest_more X f i t = refl

  -- the product of x less each of the first i points
  unfoldable pub differences : (ℕ → F) → ℕ → F → F
  differences X zero x = 𝟙
  differences X (suc i) x = differences X i x ⊗ (x ⊖ X i)

  pub differences_none : (X : ℕ → F) (x : F) → differences X 0 x ≡ 𝟙
  unfolding differences
  differences_none X x = refl

  pub differences_more : (X : ℕ → F) (i : ℕ) (x : F) → differences X (suc i) x ≡ differences X i x ⊗ (x ⊖ X i)
  unfolding differences
  differences_more X i x = refl

  -- the powers of x, after i points are eliminated
  pub rest_powers : (X : ℕ → F) (x : F) (i t : ℕ) → rest X i (pow R x) t ≡ differences X i x ⊗ pow R x t
  rest_powers X x zero t = simp (rest_none, differences_none) (simp ring)
  rest_powers X x (suc i) t = go (rest_powers X x i t) (rest_powers X x i (suc t))
    where
      go : rest X i (pow R x) t ≡ differences X i x ⊗ pow R x t → rest X i (pow R x) (suc t) ≡ differences X i x ⊗ pow R x (suc t)
          → rest X (suc i) (pow R x) t ≡ differences X (suc i) x ⊗ pow R x t
      go e d = simp (rest_more, differences_more, e, d, pow_suc) (simp ring)

  module _ (X y B : ℕ → F) where
    -- the coefficient of unknown j in equation t, after i points are eliminated
    abbrev C : ℕ → ℕ → ℕ → F
    C i t j = rest X i (pow R (X j)) t

    abbrev left : ℕ → ℕ → ℕ → F
    left i m t = from i m (λ j. C i t j ⊗ y j)

    -- the unknown of the point that is eliminated next
    own : (i t : ℕ) → C i (suc t) i ≡ X i ⊗ C i t i
    own i t = go (rest_powers X (X i) i t) (rest_powers X (X i) i (suc t))
      where
        go : C i t i ≡ differences X i (X i) ⊗ pow R (X i) t → C i (suc t) i ≡ differences X i (X i) ⊗ pow R (X i) (suc t) → C i (suc t) i ≡ X i ⊗ C i t i
        go e d = simp (e, d, pow_suc) (simp ring)

    -- equation t + 1 from equation t, and from what is left of it after one point more
    one_more : (i m t : ℕ) → left (suc i) m t ≡ rest X (suc i) B t → left i (suc m) t ≡ rest X i B t → left i (suc m) (suc t) ≡ rest X i B (suc t)
    one_more i m t e d =
        from_more i m _
        ∙ ap₂ (λ u v. u ⊗ y i ⊕ v) (own i t)
        (from_ext _ _ (suc i) m (λ j. ap (λ u. u ⊗ y j) (again j)) ∙ from_split (X i) (λ j. C (suc i) t j) (λ j. C i t j) y (suc i) m)
        ∙ join (C i t i) (y i) (from (suc i) m (λ j. C (suc i) t j ⊗ y j)) (from (suc i) m (λ j. C i t j ⊗ y j))
        ∙ ap₂ (λ u v. X i ⊗ u ⊕ v) (sym (from_more i m _) ∙ d) (e ∙ rest_more X B i t)
        ∙ back (rest X i B t) (rest X i B (suc t))
      where
        again : (j : ℕ) → C i (suc t) j ≡ C (suc i) t j ⊕ X i ⊗ C i t j
        again j = sym (ap (λ u. u ⊕ X i ⊗ C i t j) (rest_more X (pow R (X j)) i t) ∙ R.sub_add _ _)

        join : (c z a b : F) → X i ⊗ c ⊗ z ⊕ (a ⊕ X i ⊗ b) ≡ X i ⊗ (c ⊗ z ⊕ b) ⊕ a
        join c z a b = simp ring

        back : (a b : F) → X i ⊗ a ⊕ (b ⊖ X i ⊗ a) ≡ b
        back a b = simp ring

    -- values that meet equation 0 of every stage meet every equation of every stage
    pub met : (r : ℕ) → ((i m : ℕ) → i + suc m ≡ r → left i (suc m) 0 ≡ rest X i B 0) → (m i t : ℕ) → i + m ≡ r → t < m → left i m t ≡ rest X i B t
    met r tops zero i t e h = absurd (omega arith)
    met r tops (suc m) i zero e h = tops i m e
    met r tops (suc m) i (suc t) e h =
        one_more i m t (met r tops m (suc i) t (omega arith) (omega arith)) (met r tops (suc m) i t e (omega arith))

module _ {F : Type 0} {R : Ring F} (K : Field R) where
  -- no zero on the diagonal
  pub differences_nonzero : (X : ℕ → F) (x : F) (i : ℕ) → ((l : ℕ) → l < i → R.◌⊖◌ x (X l) ≢ R.𝟘) → differences R X i x ≢ R.𝟘
  differences_nonzero X x zero h e = K.one_ne_zero (sym (differences_none R X x) ∙ e)
  differences_nonzero X x (suc i) h e =
      mul_ne_zero K _ _ (differences_nonzero X x i (λ l k. h l (omega arith))) (h i (omega arith)) (sym (differences_more R X i x) ∙ e)
