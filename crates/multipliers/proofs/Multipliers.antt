-- A missing entry of a column by multipliers, and that no other multipliers serve. The sum over a column of each entry times a product of
-- as many differences as there are missing entries but one is a sum of parity equations, and so 0; the product is 0 at the other missing entries.
use mathlib.Core.Path.{◌≡◌, refl, sym, ap, ap₂, ◌∙◌}
use mathlib.Core.Logic.{◌≢◌}
use mathlib.Core.Bool.{Bool, true, false, cond, ◌||◌, true≢false}
use mathlib.Core.List.{List}
use Prim.Native.Nat.{ℕ, zero, suc, ◌+◌, ◌-◌, ◌*◌, ◌%◌, ◌^◌, ◌≤◌, ◌<◌}
use native.Mathlib.Nat.{mod-lt, mod-eq_of_lt}
use native.Mathlib.Decide.{ℕ_discrete}
use native.Mathlib.Omega.{arith}
use lib.Dec.{eqb}
use lib.ListN.{length, get_or}
use borrow.Author.Tests.{eq-eqb, ne_eqb, eqb-false}
use Rattle.lists.specs.Lists.{member, position, others, rising}
use Rattle.lists.specs.Sums.{sum, sum_over}
use Rattle.lists.proofs.Members.{member_of, at_position, rises_position, rising_below}
use Rattle.lists.proofs.Sums.{sum_suc, sum_only, sum_add, sum_ext, sum_const, sum_tests, over_sum}
use Rattle.lists.proofs.Others.{others_rise, others_length, others_at, others_member, sum_split}
use Rattle.field.specs.Residues.{Prime, minus, inverse}
use Rattle.field.proofs.Ring.{Ring, Field, ring, mul_zero, zero_mul, one_mul, mul_ne_zero, div_intro}
use Rattle.field.proofs.Powers.{pow, pow_zero, pow_suc}
use Rattle.field.proofs.Residues.{Residue, res_add, res_mul, res_pow, res_mod, res_zero, zero_is, one_is}
use Rattle.field.proofs.Fields.{pos, R, field_inv}
use Rattle.field.proofs.Bridge.{r as residue, K as field, res_inj, minus_is}
use Rattle.column.specs.Column.{parity, completed, Points, Completion}
use Rattle.column.proofs.Column.{completed_is}
use Rattle.multipliers.specs.Multipliers.{left_out, differences, multiplier, unit}
use Rattle.multipliers.proofs.Totals.{total, total_ext, total_less, total_zero, total_is}
use Rattle.multipliers.proofs.Units.{unit_small, unit_picks}

-- ---- the entries left out

pub left_listed : (list : List ℕ) (i e : ℕ) → member e list ≡ true → left_out list i e ≡ true
unfolding left_out
left_listed list i e m = ap (λ b. b || eqb e i) m

pub left_self : (list : List ℕ) (i : ℕ) → member i list ≡ false → left_out list i i ≡ true
unfolding left_out
left_self list i m = ap₂ ◌||◌ m (eq-eqb i i refl)

pub left_not : (list : List ℕ) (i e : ℕ) → member e list ≡ false → e ≢ i → left_out list i e ≡ false
unfolding left_out
left_not list i e m d = ap₂ ◌||◌ m (ne_eqb e i d)

pub left_none : (list : List ℕ) (i e : ℕ) → left_out list i e ≡ false → (member e list ≡ false) × (e ≢ i)
unfolding left_out
left_none list i e h = go (member e list) refl
  where
    go : (b : Bool) → member e list ≡ b → (member e list ≡ false) × (e ≢ i)
    go true m = absurd (true≢false (sym (ap (λ b. b || eqb e i) m) ∙ h))
    go false m = (m, eqb-false e i (sym (ap (λ b. b || eqb e i) m) ∙ h))

-- ---- the products

module _ (q : ℕ) (ps list : List ℕ) (i x : ℕ) where
  pub differences_none : differences q ps list i x 0 ≡ 1
  unfolding differences
  differences_none = refl

  pub differences_left : (m : ℕ) → left_out list i m ≡ true → differences q ps list i x (suc m) ≡ differences q ps list i x m
  unfolding differences
  differences_left m e = rw e

  pub differences_next : (m : ℕ) → left_out list i m ≡ false → differences q ps list i x (suc m) ≡ differences q ps list i x m * minus q x (get_or ps m 0) % q
  unfolding differences
  differences_next m e = rw e

  pub differences_small : 1 < q → (m : ℕ) → differences q ps list i x m < q
  differences_small h zero = unfold differences in h
  differences_small h (suc m) = go (left_out list i m) refl (differences_small h m)
    where
      go : (b : Bool) → left_out list i m ≡ b → differences q ps list i x m < q → differences q ps list i x (suc m) < q
      go true e ih = rw (differences_left m e) ih
      go false e ih = rw (differences_next m e) (mod-lt _ (omega arith))

-- a product reads the points of the entries that are not left out, and a multiplier that of its listed entry besides
differences_ext : (q : ℕ) (ps ps' list : List ℕ) (i x m : ℕ) → ((e : ℕ) → e < m → member e list ≡ false → get_or ps e 0 ≡ get_or ps' e 0)
    → differences q ps list i x m ≡ differences q ps' list i x m
differences_ext q ps ps' list i x zero h = differences_none q ps list i x ∙ sym (differences_none q ps' list i x)
differences_ext q ps ps' list i x (suc m) h = go (left_out list i m) refl (differences_ext q ps ps' list i x m (λ e l. h e (omega arith)))
  where
    go : (b : Bool) → left_out list i m ≡ b → differences q ps list i x m ≡ differences q ps' list i x m → differences q ps list i x (suc m) ≡ differences q ps' list i x (suc m)
    go true e ih = differences_left q ps list i x m e ∙ ih ∙ sym (differences_left q ps' list i x m e)
    go false e ih =
        differences_next q ps list i x m e ∙ ap₂ (λ u v. u * minus q x v % q) ih (h m (omega arith) (left_none list i m e).0)
        ∙ sym (differences_next q ps' list i x m e)

pub multiplier_ext : (q : ℕ) (ps ps' list : List ℕ) (i j : ℕ) → length ps ≡ length ps' → i < length ps → member i list ≡ false
    → ((e : ℕ) → e < length ps → member e list ≡ false → get_or ps e 0 ≡ get_or ps' e 0) → get_or ps (get_or list j 0) 0 ≡ get_or ps' (get_or list j 0) 0
    → multiplier q ps list i j ≡ multiplier q ps' list i j
unfolding multiplier
multiplier_ext q ps ps' list i j long l u h s = ap₂ (λ x y. minus q 0 x * inverse q y % q) (each (get_or list j 0) s) (each i (h i l u))
  where
    each : (m : ℕ) → get_or ps m 0 ≡ get_or ps' m 0 → differences q ps list i (get_or ps m 0) (length ps) ≡ differences q ps' list i (get_or ps' m 0) (length ps')
    each m g = differences_ext q ps ps' list i (get_or ps m 0) (length ps) h ∙ ap₂ (λ x y. differences q ps' list i x y) g long

-- ---- how many entries are not left out

abbrev one : Bool → ℕ
one b = cond b 0 1

abbrev count : List ℕ → ℕ → ℕ → ℕ
count list i m = sum m (λ e. one (left_out list i e))

count_left : (list : List ℕ) (i m : ℕ) → left_out list i m ≡ true → count list i (suc m) ≡ count list i m
count_left list i m e = sum_suc m _ ∙ ap (λ b. count list i m + one b) e ∙ omega arith

count_next : (list : List ℕ) (i m : ℕ) → left_out list i m ≡ false → count list i (suc m) ≡ count list i m + 1
count_next list i m e = sum_suc m _ ∙ ap (λ b. count list i m + one b) e

count_all : (n : ℕ) (list : List ℕ) (up : rising 0 n list ≡ true) (i : ℕ) → i < n → member i list ≡ false → count list i n + 1 ≡ n - length list
count_all n list up i h u =
    ap (λ k. count list i n + k) (sym (sum_tests n i h)) ∙ sym (sum_add n (λ e. one (left_out list i e)) (λ e. cond (eqb i e) 1 0))
    ∙ sum_ext n _ _ (λ e l. each e (member e list) refl (ℕ_discrete i e)) ∙ whole
    ∙ omega (arith, others_length n list up)
  where
    each : (e : ℕ) (b : Bool) → member e list ≡ b → Dec (i ≡ e) → one (left_out list i e) + cond (eqb i e) 1 0 ≡ one (member e list)
    each e true m (yes d) = absurd (true≢false (sym m ∙ ap (λ k. member k list) (sym d) ∙ u))
    each e true m (no d) = rw (left_listed list i e m, ne_eqb i e d, m)
    each e false m (yes d) = rw (m, sym d, left_self list i u, eq-eqb i i refl)
    each e false m (no d) = rw (left_not list i e m (λ s. d (sym s)), ne_eqb i e d, m)

    whole : sum n (λ e. one (member e list)) ≡ length (others n list)
    whole =
        sum_split n list up (λ e. one (member e list))
        ∙ ap₂ ◌+◌
        (over_sum list _ ∙ sum_ext (length list) _ (λ j. 0) (λ j l. ap one (member_of list j l)) ∙ sum_const (length list) 0)
        (over_sum (others n list) _ ∙ sum_ext (length (others n list)) _ (λ j. 1) (λ j l. ap one (others_at n list up j l).1)
        ∙ sum_const (length (others n list)) 1)
        ∙ omega arith

-- ---- in a ring

module _ {F : Type 0} (R : Ring F) where
  open R use {𝟘, 𝟙, ◌⊕◌, ◌⊖◌, ◌⊗◌}

  infixl 65 ◌⊕◌
  infixl 65 ◌⊖◌
  infixl 70 ◌⊗◌
  raised : (p d x y f : F) → p ⊗ (d ⊗ (x ⊖ y)) ⊗ f ≡ x ⊗ p ⊗ d ⊗ f ⊖ y ⊗ (p ⊗ d ⊗ f)
  raised p d x y f = simp ring

  gone : (y : F) → 𝟘 ⊖ y ⊗ 𝟘 ≡ 𝟘
  gone y = simp ring

  plain : (p f : F) → p ⊗ 𝟙 ⊗ f ≡ p ⊗ f
  plain p f = simp ring

  -- with the part of the listed entries a and the missing one's factor and value
  opposite : (a d v : F) → a ⊕ d ⊗ v ≡ 𝟘 → d ⊗ v ≡ 𝟘 ⊖ a
  opposite a d v e = back ∙ ap (λ u. u ⊖ a) e
    where
      back : d ⊗ v ≡ a ⊕ d ⊗ v ⊖ a
      back = simp ring

  turned : (d v s : F) → (𝟘 ⊖ d) ⊗ s ⊗ v ≡ 𝟘 ⊖ s ⊗ (d ⊗ v)
  turned d v s = simp ring

  factored : (s a : F) → 𝟘 ⊖ s ⊗ a ≡ (𝟘 ⊖ a) ⊗ s
  factored s a = simp ring

module _ (q : ℕ) (prime : Prime q) (ps : List ℕ) (points : Points q ps) (list : List ℕ) (up : rising 0 (length ps) list ≡ true)
    (i : ℕ) (within : i < length ps) (unlisted : member i list ≡ false) where
  open R q prime use {𝟘, 𝟙, ◌⊕◌, ◌⊖◌, ◌⊗◌}

  infixl 65 ◌⊕◌
  infixl 65 ◌⊖◌
  infixl 70 ◌⊗◌
  abbrev o : 0 < q
  o = pos q prime

  abbrev r : ℕ → Residue q
  r = residue q prime

  abbrev K : Field (R q prime)
  K = field q prime

  abbrev n : ℕ
  n = length ps

  abbrev P : ℕ → ℕ
  P e = get_or ps e 0

  abbrev D : ℕ → ℕ → ℕ
  D x m = differences q ps list i x m

  pub next_is : (x m : ℕ) → left_out list i m ≡ false → r (D x (suc m)) ≡ r (D x m) ⊗ (r x ⊖ r (P m))
  next_is x m e = ap r (differences_next q ps list i x m e) ∙ res_mod q o _ ∙ res_mul q o _ _ ∙ ap (λ u. r (D x m) ⊗ u) (minus_is q prime x (P m))

  -- ---- where a product vanishes, and where not

  vanishes : (e m : ℕ) → e < m → left_out list i e ≡ false → r (D (P e) m) ≡ 𝟘
  vanishes e zero h l = absurd (omega arith)
  vanishes e (suc m) h l = go (left_out list i m) refl (ℕ_discrete e m) (λ g. vanishes e m g l)
    where
      self : (x : Residue q) → x ⊖ x ≡ 𝟘
      self x = simp ring

      go : (b : Bool) → left_out list i m ≡ b → Dec (e ≡ m) → (e < m → r (D (P e) m) ≡ 𝟘) → r (D (P e) (suc m)) ≡ 𝟘
      go true g (yes d) ih = absurd (true≢false (sym g ∙ sym (ap (left_out list i) d) ∙ l))
      go true g (no d) ih = ap r (differences_left q ps list i (P e) m g) ∙ ih (omega arith)
      go false g (yes d) ih =
          next_is (P e) m g ∙ ap (λ u. r (D (P e) m) ⊗ (r (P e) ⊖ r (P u))) (sym d) ∙ ap (λ u. r (D (P e) m) ⊗ u) (self _) ∙ mul_zero (R q prime) _
      go false g (no d) ih = next_is (P e) m g ∙ ap (λ u. u ⊗ (r (P e) ⊖ r (P m))) (ih (omega arith)) ∙ zero_mul (R q prime) _

  apart : (x y : Residue q) → x ⊖ y ≡ 𝟘 → x ≡ y
  apart x y e = whole ∙ ap (λ u. u ⊕ y) e ∙ end
    where
      whole : x ≡ x ⊖ y ⊕ y
      whole = simp ring

      end : 𝟘 ⊕ y ≡ y
      end = simp ring

  lasts_at : (e : ℕ) → e < length ps → ((m : ℕ) → left_out list i m ≡ false → m ≢ e) → (m : ℕ) → m ≤ length ps → r (D (P e) m) ≢ 𝟘
  lasts_at e l other zero h = λ z. K.one_ne_zero (one_is q o ∙ sym (ap r (differences_none q ps list i (P e))) ∙ z)
  lasts_at e l other (suc m) h = go (left_out list i m) refl (lasts_at e l other m (omega arith))
    where
      go : (b : Bool) → left_out list i m ≡ b → r (D (P e) m) ≢ 𝟘 → r (D (P e) (suc m)) ≢ 𝟘
      go true g ih z = ih (sym (ap r (differences_left q ps list i (P e) m g)) ∙ z)
      go false g ih z =
          mul_ne_zero K _ _ ih
          (λ s. other m g (sym (points.apart e m l (omega arith) (res_inj q prime _ _ (points.below e l) (points.below m (omega arith)) (apart _ _ s)))))
          (sym (next_is (P e) m g) ∙ z)

  pub lasts : (m : ℕ) → m ≤ length ps → r (D (P i) m) ≢ 𝟘
  lasts = lasts_at i within (λ m g. (left_none list i m g).1)

  -- the divisor is not 0
  pub divisor_nonzero : differences q ps list i (get_or ps i 0) (length ps) ≢ 0
  divisor_nonzero e = lasts n (omega arith) (ap r e ∙ sym (zero_is q o))

  -- a multiplier as a quotient of residues
  abbrev s : Residue q
  s = K.inv (r (D (P i) n))

  pub multiplier_is : (j : ℕ) → r (multiplier q ps list i j) ≡ (𝟘 ⊖ r (D (P (get_or list j 0)) n)) ⊗ s
  unfolding multiplier inverse
  multiplier_is j =
      res_mod q o _ ∙ res_mul q o _ _
      ∙ ap₂ ◌⊗◌ (minus_is q prime 0 _ ∙ ap (λ u. u ⊖ r (D (P (get_or list j 0)) n)) (sym (zero_is q o)))
      (res_mod q o _ ∙ res_pow q o _ (q - 2) ∙ sym (field_inv q prime _))

  -- ---- the sum of a column's entries, each times a product

  module _ (f : ℕ → Residue q) (met : (t : ℕ) → t < length ps - length list → total (R q prime) (length ps) (λ e. pow (R q prime) (r (get_or ps e 0)) t ⊗ f e) ≡ 𝟘) where
    abbrev weighed : ℕ → ℕ → Residue q
    weighed s m = total (R q prime) n (λ e. pow (R q prime) (r (P e)) s ⊗ r (D (P e) m) ⊗ f e)

    combines : (m s : ℕ) → m ≤ length ps → s + count list i m < length ps - length list → weighed s m ≡ 𝟘
    combines zero s h l =
        total_ext (R q prime) n _ _
        (λ e _. ap (λ u. pow (R q prime) (r (P e)) s ⊗ u ⊗ f e) (ap r (differences_none q ps list i (P e)) ∙ sym (one_is q o)) ∙ plain (R q prime) _ (f e))
        ∙ met s (omega arith)
    combines (suc m) s h l = go (left_out list i m) refl (λ s g. combines m s (omega arith) g)
      where
        go : (b : Bool) → left_out list i m ≡ b → ((s : ℕ) → s + count list i m < length ps - length list → weighed s m ≡ 𝟘) → weighed s (suc m) ≡ 𝟘
        go true g ih =
            total_ext (R q prime) n _ _ (λ e _. ap (λ u. pow (R q prime) (r (P e)) s ⊗ r u ⊗ f e) (differences_left q ps list i (P e) m g))
            ∙ ih s (omega (arith, count_left list i m g))
        go false g ih =
            total_ext (R q prime) n _ _
            (λ e _. ap (λ u. pow (R q prime) (r (P e)) s ⊗ u ⊗ f e) (next_is (P e) m g)
            ∙ raised (R q prime) (pow (R q prime) (r (P e)) s) (r (D (P e) m)) (r (P e)) (r (P m)) (f e)
            ∙ ap (λ u. u ⊗ r (D (P e) m) ⊗ f e ⊖ r (P m) ⊗ (pow (R q prime) (r (P e)) s ⊗ r (D (P e) m) ⊗ f e)) (sym (pow_suc (R q prime) (r (P e)) s)))
            ∙ total_less (R q prime) n (r (P m)) (λ e. pow (R q prime) (r (P e)) (suc s) ⊗ r (D (P e) m) ⊗ f e) _
            ∙ ap₂ (λ u v. u ⊖ r (P m) ⊗ v) (ih (suc s) (omega (arith, count_next list i m g))) (ih s (omega (arith, count_next list i m g)))
            ∙ gone (R q prime) (r (P m))

  -- ---- the missing entry

  module _ (values : ℕ → ℕ) (small : (j : ℕ) → j < length list → values j < q) where
    abbrev column : List ℕ
    column = completed q ps list values

    abbrev c : ℕ → ℕ
    c e = get_or (completed q ps list values) e 0

    is : Completion q ps list values (completed q ps list values)
    is = completed_is q prime ps points list up values small

    met : (t : ℕ) → t < length ps - length list → total (R q prime) n (λ e. pow (R q prime) (r (P e)) t ⊗ r (c e)) ≡ 𝟘
    unfolding parity
    met t l =
        total_ext (R q prime) n _ _ (λ e _. sym (res_mul q o _ _ ∙ ap (λ u. u ⊗ r (c e)) (res_pow q o (P e) t)))
        ∙ sym (total_is q prime n (λ e. P e ^ t * c e)) ∙ (res_zero q o _).0 (is.met t l)

    -- all entries, times their products
    balance : sum n (λ e. D (P e) n * c e) % q ≡ 0
    balance =
        (res_zero q o _).1
        (total_is q prime n _
        ∙ total_ext (R q prime) n _ _
        (λ e _. res_mul q o _ _ ∙ sym (ap (λ u. u ⊗ r (D (P e) n) ⊗ r (c e)) (pow_zero (R q prime) (r (P e))) ∙ ap (λ u. u ⊗ r (c e)) (one_mul (R q prime) _)))
        ∙ combines (λ e. r (c e)) met n 0 (omega arith) (omega (arith, count_all n list up i within unlisted)))

    abbrev known : ℕ
    known = sum (length list) (λ j. D (P (get_or list j 0)) n * values j)

    abbrev weight : ℕ → ℕ
    weight e = D (P e) n * c e

    -- of the missing entries i alone counts
    rest : sum_over (others n list) weight ≡ weight i
    rest =
        over_sum (others n list) weight
        ∙ sum_only (length (others n list)) (position i (others n list)) _ at.0 (λ j l d. ap (λ u. u * c (get_or (others n list) j 0)) (zero j l d) ∙ omega arith)
        ∙ ap weight at.1
      where
        at : (position i (others n list) < length (others n list)) × (get_or (others n list) (position i (others n list)) 0 ≡ i)
        at = at_position (others n list) i (others_member n list up i within unlisted)

        zero : (j : ℕ) → j < length (others n list) → j ≢ position i (others n list) → D (P (get_or (others n list) j 0)) n ≡ 0
        zero j l d =
            let w = others_at n list up j l in
            res_inj q prime _ 0 (differences_small q ps list i _ prime.big n) o
            (vanishes (get_or (others n list) j 0) n w.0
            (left_not list i _ w.1 (λ e. d (sym (rises_position 0 n (others n list) j (others_rise n list up) l) ∙ ap (λ k. position k (others n list)) e)))
            ∙ zero_is q o)

    parts : sum n weight ≡ known + weight i
    parts =
        sum_split n list up weight
        ∙ ap₂ ◌+◌ (over_sum list weight ∙ sum_ext (length list) _ _ (λ j l. ap (λ u. D (P (get_or list j 0)) n * u) (is.listed j l))) rest

    -- the missing entry is a quotient
    quotient : r (c i) ≡ (𝟘 ⊖ r known) ⊗ s
    quotient =
        div_intro K _ _ _ (lasts n (omega arith))
        (opposite (R q prime) (r known) _ _
        (sym (res_add q o known (weight i) ∙ ap (λ u. r known ⊕ u) (res_mul q o _ _)) ∙ ap r (sym parts) ∙ (res_zero q o _).0 balance))

    -- a missing entry is the sum of the listed values times the multipliers
    pub missing_sum : get_or (completed q ps list values) i 0 ≡ sum (length list) (λ j. multiplier q ps list i j * values j) % q
    missing_sum =
        res_inj q prime _ _ (is.small i within) (mod-lt _ o)
        (quotient
        ∙ sym
        (res_mod q o _ ∙ total_is q prime (length list) _
        ∙ total_ext (R q prime) (length list) _ _
        (λ j _. res_mul q o _ _ ∙ ap (λ u. u ⊗ r (values j)) (multiplier_is j) ∙ turned (R q prime) _ (r (values j)) s
        ∙ ap (λ u. 𝟘 ⊖ s ⊗ u) (sym (res_mul q o _ _)))
        ∙ total_less (R q prime) (length list) s (λ j. 𝟘) _
        ∙ ap₂ (λ u v. u ⊖ s ⊗ v) (total_zero (R q prime) (length list)) (sym (total_is q prime (length list) _))
        ∙ factored (R q prime) s (r known)))

  -- ---- and no other multipliers serve

  pub multiplier_small : (j : ℕ) → multiplier q ps list i j < q
  unfolding multiplier
  multiplier_small j = mod-lt _ o

  -- none is 0
  pub multiplier_nonzero : (j : ℕ) → j < length list → multiplier q ps list i j ≢ 0
  multiplier_nonzero j h z =
      mul_ne_zero K _ _ (λ e. numerator (sym (apart 𝟘 _ e))) (λ e. K.one_ne_zero (sym (K.mul_inv _ bottom) ∙ ap (λ u. r (D (P i) n) ⊗ u) e ∙ mul_zero (R q prime) _))
      (sym (multiplier_is j) ∙ ap r z ∙ sym (zero_is q o))
    where
      bottom : r (D (P i) n) ≢ 𝟘
      bottom = lasts n (omega arith)

      numerator : r (D (P (get_or list j 0)) n) ≢ 𝟘
      numerator =
          lasts_at (get_or list j 0) (rising_below n list up j h)
          (λ m g e. true≢false (sym (member_of list j h) ∙ ap (λ u. member u list) (sym e) ∙ (left_none list i m g).0)) n (omega arith)

  pub multiplier_only : (f : ℕ → ℕ)
      → ((values : ℕ → ℕ) → ((j : ℕ) → j < length list → values j < q) → get_or (completed q ps list values) i 0 ≡ sum (length list) (λ j. f j * values j) % q)
      → (j : ℕ) → j < length list → f j % q ≡ multiplier q ps list i j
  multiplier_only f all j h =
      ap (λ k. k % q) (sym (unit_picks (length list) j f h)) ∙ sym (all (unit j) small) ∙ missing_sum (unit j) small
      ∙ ap (λ k. k % q) (unit_picks (length list) j (multiplier q ps list i) h) ∙ mod-eq_of_lt (multiplier_small j)
    where
      small : (e : ℕ) → e < length list → unit j e < q
      small e _ = unit_small q j e prime.big

-- an inverse of x is the inverse of x
pub inverse_only : (q : ℕ) (prime : Prime q) (x s : ℕ) → s < q → (x * s) % q ≡ 1 → s ≡ inverse q x
unfolding inverse
inverse_only q prime x s h e =
    res_inj q prime _ _ h (mod-lt _ (pos q prime))
    (div_intro (field q prime) (residue q prime s) (residue q prime x) _ nonzero whole ∙ one_mul (R q prime) _
    ∙ field_inv q prime _ ∙ sym (res_mod q (pos q prime) _ ∙ res_pow q (pos q prime) x (q - 2)))
  where
    whole : (R q prime).◌⊗◌ (residue q prime x) (residue q prime s) ≡ (R q prime).𝟙
    whole = sym (res_mul q (pos q prime) x s) ∙ sym (res_mod q (pos q prime) (x * s)) ∙ ap (residue q prime) e ∙ sym (one_is q (pos q prime))

    nonzero : residue q prime x ≢ (R q prime).𝟘
    nonzero z = (field q prime).one_ne_zero (sym whole ∙ ap (λ u. (R q prime).◌⊗◌ u (residue q prime s)) z ∙ zero_mul (R q prime) _)
