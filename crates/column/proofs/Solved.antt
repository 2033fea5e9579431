-- Values that meet the triangle's equations are the solution of the Vandermonde equations of distinct points.
use mathlib.Core.Path.{◌≡◌, refl, sym, ap, ap₂, ◌∙◌, fun_ext}
use mathlib.Core.Logic.{◌≢◌}
use mathlib.Core.List.{List, [], ◌∷◌, map}
use Prim.Native.Nat.{ℕ, zero, suc, ◌+◌, ◌-◌, ◌*◌, ◌^◌, ◌<◌}
use native.Mathlib.Nat.{add-suc, suc-add, add-zero}
use native.Mathlib.Numerals.{add-one}
use native.Mathlib.Omega.{arith}
use lib.ListN.{length, get_or, length-map}
use Rattle.lists.specs.Lists.{element}
use Rattle.lists.specs.Sums.{sum}
use Rattle.lists.proofs.Sums.{sum_ext, sum_first}
use Rattle.lists.proofs.Members.{Rises, rises_at, rises_distinct}
use Rattle.lists.proofs.Tables.{map_at}
use Rattle.field.specs.Residues.{Prime, solution}
use Rattle.field.proofs.Ring.{Field, ring, sub_add, mul_one}
use Rattle.field.proofs.Powers.{pow, pow_zero}
use Rattle.field.proofs.Residues.{Residue, res_add, res_mul, res_pow, res_mod, zero_is, one_is}
use Rattle.field.proofs.Fields.{pos, R}
use Rattle.field.proofs.Vandermonde.{moment, moment_nil, moment_cons, Apart, Distinct, unique}
use Rattle.field.proofs.Bridge.{r as residue, K as field, res_inj, small_same, minus_is, solution_is, solution_small}
use Rattle.column.specs.Column.{Points}
use Rattle.column.specs.Solving.{power_of, less, eliminated, differences, pivot_at}
use Rattle.column.proofs.Elimination.{from, from_none, from_more, from_ext, rest, rest_none, differences as field_differences, differences_none, differences_more, rest_powers, differences_nonzero, met}

-- some of the points, at rising places
pub points_picked : (q : ℕ) (ps : List ℕ) → Points q ps → (a : ℕ) (list : List ℕ) → Rises a (length ps) list → Points q (map (λ i. get_or ps i 0) list)
points_picked q ps points a list up = record {
  below = λ j h. rw (at j (shorter h)) (points.below _ (rises_at a _ list j up (shorter h)).1);
  apart = λ i j h k e.
      rises_distinct a _ list i j up (shorter h) (shorter k)
      (points.apart _ _ (rises_at a _ list i up (shorter h)).1 (rises_at a _ list j up (shorter k)).1 (sym (at i (shorter h)) ∙ e ∙ at j (shorter k)));
}
  where
    shorter : {j : ℕ} → j < length (map (λ i. get_or ps i 0) list) → j < length list
    shorter h = rw length-map at h

    at : (j : ℕ) → j < length list → get_or (map (λ i. get_or ps i 0) list) j 0 ≡ get_or ps (get_or list j 0) 0
    at j h = map_at (λ i. get_or ps i 0) list j 0 0 h

module _ (q : ℕ) (prime : Prime q) where
  open R q prime use {𝟘, 𝟙, ◌⊕◌, ◌⊖◌, ◌⊗◌}

  infixl 65 ◌⊕◌
  infixl 65 ◌⊖◌
  infixl 70 ◌⊗◌
  abbrev o : 0 < q
  o = pos q prime

  abbrev r : ℕ → Residue q
  r = residue q prime

  abbrev K : Field (R q prime)
  K = field q prime

  -- distinct points are distinct residues
  apart_of : (x : ℕ) (cs : List ℕ) → x < q → ((j : ℕ) → j < length cs → (get_or cs j 0 < q) × (get_or cs j 0 ≢ x)) → Apart K (r x) (map r cs)
  apart_of x [] h each = tt
  apart_of x (c ∷ cs) h each =
      (λ e. (each 0 (omega arith)).1 (res_inj q prime c x (each 0 (omega arith)).0 h e), apart_of x cs h (λ j l. each (suc j) (omega arith)))

  pub points_distinct : (xs : List ℕ) → Points q xs → Distinct K (map r xs)
  points_distinct [] points = tt
  points_distinct (x ∷ xs) points = (
    apart_of x xs (points.below 0 (omega arith)) (λ j l. (points.below (suc j) (omega arith), λ e. absurd (differ j l (points.apart (suc j) 0 (omega arith) (omega arith) e)))),
    points_distinct xs (record {
      below = λ i h. points.below (suc i) (omega arith);
      apart = λ i j h k e. let same : suc i ≡ suc j = points.apart (suc i) (suc j) (omega arith) (omega arith) e in omega arith;
    }),
  )
    where
      differ : (j : ℕ) → j < length xs → suc j ≡ 0 → ⊥
      differ j l e = omega arith

  sum_moment : (t : ℕ) (xs ys : List ℕ) → length ys ≡ length xs
      → r (sum (length xs) (λ j. get_or xs j 0 ^ t * get_or ys j 0)) ≡ moment K t (map r xs) (map r ys)
  sum_moment t [] ys e = unfold sum in sym (moment_nil K t (map r ys) ∙ zero_is q o)
  sum_moment t (x ∷ xs) [] e = absurd (omega arith)
  sum_moment t (x ∷ xs) (y ∷ ys) e =
      ap r (sum_first (length xs) (λ j. get_or (x ∷ xs) j 0 ^ t * get_or (y ∷ ys) j 0))
      ∙ res_add q o _ _
      ∙ ap₂ ◌⊕◌ (res_mul q o _ _ ∙ ap (λ u. u ⊗ r y) (res_pow q o x t)) (sum_moment t xs ys (omega arith))
      ∙ sym (moment_cons K t (r x) _ _ _)

  -- a list that meets the equations is the solution
  pub solution_only : (xs : List ℕ) → Points q xs → (right : ℕ → ℕ) (ys : List ℕ) → length ys ≡ length xs → ((j : ℕ) → j < length ys → get_or ys j 0 < q)
      → ((t : ℕ) → t < length xs → r (sum (length xs) (λ j. get_or xs j 0 ^ t * get_or ys j 0)) ≡ r (right t)) → ys ≡ solution q xs right
  solution_only xs points right ys e small each =
      small_same q prime ys (solution q xs right) small (λ j l. solution_small q prime xs right j)
      (unique K (map r xs) (λ t. r (right t)) (points_distinct xs points) (map r ys)
      (length-map ys r ∙ e ∙ sym (length-map xs r))
      (λ t l. sym (sum_moment t xs ys e) ∙ each t (rw length-map at l))
      ∙ sym (solution_is q prime xs right))

  -- ---- from numbers to residues

  eliminated_is : (p f : ℕ → ℕ) (i t : ℕ) → r (eliminated q p i f t) ≡ rest (R q prime) (λ l. r (p l)) i (λ s. r (f s)) t
  unfolding eliminated rest
  eliminated_is p f zero t = refl
  eliminated_is p f (suc i) t = go (eliminated_is p f i t) (eliminated_is p f i (suc t))
    where
      go : r (eliminated q p i f t) ≡ rest (R q prime) (λ l. r (p l)) i (λ s. r (f s)) t
          → r (eliminated q p i f (suc t)) ≡ rest (R q prime) (λ l. r (p l)) i (λ s. r (f s)) (suc t)
          → r (less q (p i) (eliminated q p i f) t) ≡ rest (R q prime) (λ l. r (p l)) i (λ s. r (f s)) (suc t) ⊖ r (p i) ⊗ rest (R q prime) (λ l. r (p l)) i (λ s. r (f s)) t
      go e d = unfold less in minus_is q prime _ _ ∙ ap₂ ◌⊖◌ (ap (λ s. r (eliminated q p i f s)) (add-one t) ∙ d) (res_mul q o _ _ ∙ ap (λ u. r (p i) ⊗ u) e)

  sum_from : (f : ℕ → ℕ) (m i : ℕ) → r (sum m (λ d. f (i + d))) ≡ from (R q prime) i m (λ j. r (f j))
  sum_from f zero i = unfold sum in sym (from_none (R q prime) i _ ∙ zero_is q o)
  sum_from f (suc m) i =
      ap r (sum_first m (λ d. f (i + d)))
      ∙ res_add q o _ _
      ∙ ap₂ ◌⊕◌ (ap (λ j. r (f j)) (add-zero i)) (ap r (sum_ext m _ _ (λ d l. ap f (add-suc i d ∙ sym (suc-add i d)))) ∙ sum_from f m (suc i))
      ∙ sym (from_more (R q prime) i m _)

  powers_are : (x t : ℕ) → r (power_of q x t) ≡ pow (R q prime) (r x) t
  powers_are x t = res_mod q o _ ∙ res_pow q o x t

  module _ (xs : List ℕ) (points : Points q xs) where
    abbrev X : ℕ → Residue q
    X l = r (element xs l)

    -- a coefficient of the triangle: that of the unknown at x in equation i
    abbrev corner : ℕ → ℕ → ℕ
    corner i x = eliminated q (element xs) i (power_of q x) 0

    corner_is : (i x : ℕ) → r (corner i x) ≡ rest (R q prime) X i (pow (R q prime) (r x)) 0
    corner_is i x = eliminated_is (element xs) (power_of q x) i 0 ∙ ap (λ f. rest (R q prime) X i f 0) (fun_ext (powers_are x))

    differences_is : (i x : ℕ) → r (differences q (element xs) i x) ≡ field_differences (R q prime) X i (r x)
    differences_is zero x = none ∙ sym (differences_none (R q prime) X (r x))
      where
        none : r (differences q (element xs) 0 x) ≡ 𝟙
        none = unfold differences in sym (one_is q o)
    differences_is (suc i) x = go (differences_is i x)
      where
        go : r (differences q (element xs) i x) ≡ field_differences (R q prime) X i (r x)
            → r (differences q (element xs) (suc i) x) ≡ field_differences (R q prime) X (suc i) (r x)
        go e = unfold differences in
            res_mod q o _ ∙ res_mul q o _ _ ∙ ap₂ ◌⊗◌ e (minus_is q prime x (element xs i)) ∙ sym (differences_more (R q prime) X i (r x))

    -- what is left of the powers of x in the triangle: x less each point before, multiplied
    pub corner_product : (i x : ℕ) → eliminated q (element xs) i (power_of q x) 0 < q → differences q (element xs) i x < q
        → differences q (element xs) i x ≡ eliminated q (element xs) i (power_of q x) 0
    corner_product i x low low' =
        res_inj q prime _ _ low' low
        (differences_is i x ∙ sym (mul_one (R q prime) _) ∙ ap (λ u. field_differences (R q prime) X i (r x) ⊗ u) (sym (pow_zero (R q prime) (r x)))
        ∙ sym (rest_powers (R q prime) X (r x) i 0) ∙ sym (corner_is i x))

    -- a point differs from those before it
    pub pivot_nonzero : (i : ℕ) → i < length xs → pivot_at q xs i ≢ 0
    pivot_nonzero i h e = differences_nonzero K X (X i) i differ (sym (differences_is i (element xs i)) ∙ ap r e ∙ sym (zero_is q o))
      where
        differ : (l : ℕ) → l < i → X i ⊖ X l ≢ 𝟘
        differ l k d =
            let same : i ≡ l = points.apart i l h (omega arith)
            (res_inj q prime _ _ (points.below i h) (points.below l (omega arith)) (sym (sub_add (R q prime) (X i) (X l)) ∙ ap (λ u. u ⊕ X l) d ∙ simp ring)) in
            omega arith

    pub triangle_solved : (right : ℕ → ℕ) (ys : List ℕ) → length ys ≡ length xs → ((j : ℕ) → j < length ys → get_or ys j 0 < q)
        → ((i : ℕ) → i < length xs
        → r (sum (length xs - i) (λ d. eliminated q (element xs) i (power_of q (element xs (i + d))) 0 * element ys (i + d))) ≡ r (eliminated q (element xs) i right 0))
        → ys ≡ solution q xs right
    triangle_solved right ys e small tops = solution_only xs points right ys e small each
      where
        top : (i m : ℕ) → i + suc m ≡ length xs → from (R q prime) i (suc m) (λ j. rest (R q prime) X i (pow (R q prime) (X j)) 0 ⊗ r (element ys j)) ≡ rest (R q prime) X i (λ t. r (right t)) 0
        top i m k =
            from_ext (R q prime) _ _ i (suc m) (λ j. ap (λ u. u ⊗ r (element ys j)) (sym (corner_is i (element xs j))) ∙ sym (res_mul q o _ _))
            ∙ sym (sum_from (λ j. corner i (element xs j) * element ys j) (suc m) i)
            ∙ ap (λ z. r (sum z (λ d. corner i (element xs (i + d)) * element ys (i + d)))) (let z : suc m ≡ length xs - i = omega arith in z)
            ∙ tops i (omega arith) ∙ eliminated_is (element xs) right i 0

        each : (t : ℕ) → t < length xs → r (sum (length xs) (λ j. get_or xs j 0 ^ t * get_or ys j 0)) ≡ r (right t)
        each t h =
            ap r (sum_ext (length xs) _ _ (λ j l. ap (λ k. get_or xs k 0 ^ t * get_or ys k 0) (let z : j ≡ 0 + j = omega arith in z)))
            ∙ sum_from (λ j. get_or xs j 0 ^ t * get_or ys j 0) (length xs) 0
            ∙ from_ext (R q prime) _ _ 0 (length xs)
            (λ j. res_mul q o _ _ ∙ ap (λ u. u ⊗ r (element ys j)) (res_pow q o (element xs j) t ∙ sym (rest_none (R q prime) X (pow (R q prime) (X j)) t)))
            ∙ met (R q prime) X (λ j. r (element ys j)) (λ s. r (right s)) (length xs) top (length xs) 0 t (omega arith) h
            ∙ rest_none (R q prime) X (λ s. r (right s)) t
