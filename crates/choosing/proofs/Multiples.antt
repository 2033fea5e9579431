-- The least common multiple of two numbers, found among the multiples of one of them.
use mathlib.Core.Path.{◌≡◌, refl, sym, ap, ◌∙◌}
use mathlib.Core.Bool.{◌&&◌}
use Prim.Native.Nat.{ℕ, ◌+◌, ◌-◌, ◌*◌, ◌/◌, ◌%◌, ◌^◌, ◌≤◌, ◌<◌}
use native.Mathlib.Decide.{ℕ_discrete}
use native.Mathlib.Nat.{mod-lt, mul-mod_right, mul-mod_left, zero-mod, mod-mod_of_dvd, dvd_of_mod-eq-zero, mul-div_cancel', mul-pos, mul-le-mul, div-lt_iff_lt-mul, mul_comm}
use native.Mathlib.Omega.{arith}
use borrow.Author.Tests.{eq-eqb, ne_eqb}
use lib.Dec.{eqb}
use Rattle.lists.proofs.Tests.{each_more}
use Rattle.choosing.specs.Promises.{Common}

-- one number is 0 exactly if two others are
zero_both : (a b c : ℕ) → (a ≡ 0 → (b ≡ 0) × (c ≡ 0)) → (b ≡ 0 → c ≡ 0 → a ≡ 0) → eqb a 0 ≡ (eqb b 0 && eqb c 0)
zero_both a b c to from = go (ℕ_discrete a 0) (ℕ_discrete b 0) (ℕ_discrete c 0)
  where
    go : Dec (a ≡ 0) → Dec (b ≡ 0) → Dec (c ≡ 0) → eqb a 0 ≡ (eqb b 0 && eqb c 0)
    go (yes e) _ _ = rw (eq-eqb a 0 e, eq-eqb b 0 (to e).0, eq-eqb c 0 (to e).1) refl
    go (no d) (no u) _ = rw (ne_eqb a 0 d, ne_eqb b 0 u) refl
    go (no d) (yes e) (no u) = rw (ne_eqb a 0 d, eq-eqb b 0 e, ne_eqb c 0 u) refl
    go (no d) (yes e) (yes f) = absurd (d (from e f))

-- what divides x divides a number exactly if it divides the rest that x leaves of it
rest_divided : (c x m : ℕ) → x % c ≡ 0 → m % x % c ≡ m % c
rest_divided c x m e = mod-mod_of_dvd c m (dvd_of_mod-eq-zero c e)

-- a product on the way is below 2^64
pub product_fits : (l s j : ℕ) → l < 2 ^ 32 → s < 2 ^ 32 → j ≤ s → l * j < 2 ^ 64
product_fits l s j a b h = omega (arith, mul-le-mul (let u : l ≤ 2 ^ 32 - 1 = omega arith in u) (let u : j ≤ 2 ^ 32 - 1 = omega arith in u))

-- no multiple of l before l × j is one of s
abbrev pub NoneBefore : ℕ → ℕ → ℕ → Type 0
NoneBefore l s j = (i : ℕ) → 0 < i → i < j → (l * i) % s ≡ 0 → ⊥

module _ (l s j : ℕ) (fails : (l * j) % s ≡ 0 → ⊥) where
  pub none_more : NoneBefore l s j → NoneBefore l s (j + 1)
  none_more none i p m = each_more (λ y. 0 < y → (l * y) % s ≡ 0 → ⊥) j (λ y h o. none y o h) (λ o. fails) i m p

  -- the search ends at l × s
  pub before_last : j ≤ s → j < s
  before_last h = go (ℕ_discrete j s)
    where
      go : Dec (j ≡ s) → j < s
      go (yes e) = absurd (fails (ap (λ n. (l * n) % s) e ∙ mul-mod_left l s))
      go (no d) = omega arith

-- l × j is the first multiple of l that is one of s
module _ (l s j : ℕ) (some : 0 < l) (least : 0 < j) (found : (l * j) % s ≡ 0) (before : NoneBefore l s j) where
  -- a rest of l × j that both divide is 0: it would have been found before
  rest_zero : (r : ℕ) → r < l * j → r % l ≡ 0 → r % s ≡ 0 → r ≡ 0
  rest_zero r below e f = go (ℕ_discrete (r / l) 0)
    where
      whole : l * (r / l) ≡ r
      whole = mul-div_cancel' l (dvd_of_mod-eq-zero l e)

      go : Dec (r / l ≡ 0) → r ≡ 0
      go (yes z) = sym whole ∙ ap (λ n. l * n) z ∙ omega arith
      go (no d) =
          absurd
          (before (r / l) (omega arith) ((div-lt_iff_lt-mul some).1 (let c = mul_comm l j in omega arith)) (ap (λ n. n % s) whole ∙ f))

  pub first_common : Common l s (l * j)
  first_common = record {
    positive = mul-pos some least;
    multiples = λ m. zero_both (m % (l * j)) (m % l) (m % s) (both m)
        (λ e f. rest_zero (m % (l * j)) (mod-lt m (mul-pos some least)) (rest_divided l (l * j) m (mul-mod_right l j) ∙ e) (rest_divided s (l * j) m found ∙ f));
  }
    where
      both : (m : ℕ) → m % (l * j) ≡ 0 → (m % l ≡ 0) × (m % s ≡ 0)
      both m e = (
        sym (rest_divided l (l * j) m (mul-mod_right l j)) ∙ ap (λ n. n % l) e ∙ zero-mod l,
        sym (rest_divided s (l * j) m found) ∙ ap (λ n. n % s) e ∙ zero-mod s,
      )
