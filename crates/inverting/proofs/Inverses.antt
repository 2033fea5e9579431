-- The products of the pivots, and their inverses by one power.
use mathlib.Core.Path.{◌≡◌, refl, sym, ap, ◌∙◌}
use mathlib.Core.Logic.{◌≢◌}
use mathlib.Core.List.{List}
use Prim.Native.Nat.{ℕ, zero, suc, ◌+◌, ◌*◌, ◌%◌, ◌≤◌, ◌<◌}
use native.Mathlib.Nat.{mod-lt, mod-eq_of_lt}
use native.Mathlib.Numerals.{add-one}
use native.Mathlib.Decide.{ℕ_discrete}
use native.Mathlib.Omega.{arith}
use lib.ListN.{length, set, length-set}
use lib.Seq.{get_or-set_same, get_or-set_other}
use Rattle.lists.specs.Lists.{element}
use Rattle.field.specs.Residues.{Prime}
use Rattle.field.proofs.Ring.{mul_ne_zero}
use Rattle.field.proofs.Residues.{res_mul, res_zero, mod_mul_mod, mul_mod_mod}
use Rattle.field.proofs.Fields.{pos, R}
use Rattle.field.proofs.Bridge.{r as residue, K as field}
use Rattle.lists.proofs.Stores.{stored_more}
use Rattle.inverting.specs.Inverses.{product, Pivots, Products, Inverted}

-- a product of numbers below a prime that are not 0 is not 0
nonzero_product : (q : ℕ) → Prime q → (a b : ℕ) → a < q → b < q → a ≢ 0 → b ≢ 0 → (a * b) % q ≢ 0
nonzero_product q prime a b la lb za zb e =
    mul_ne_zero (field q prime) (residue q prime a) (residue q prime b) (not_zero a la za) (not_zero b lb zb)
    (sym (res_mul q (pos q prime) a b) ∙ (res_zero q (pos q prime) (a * b)).0 e)
  where
    not_zero : (x : ℕ) → x < q → x ≢ 0 → residue q prime x ≢ (R q prime).𝟘
    not_zero x l z d = z (sym (mod-eq_of_lt l) ∙ (res_zero q (pos q prime) x).1 d)

pub product_more : (q : ℕ) (pivots : ℕ → ℕ) (i x y : ℕ) → x ≡ product q pivots i → y ≡ (x * pivots i) % q
    → y ≡ product q pivots (i + 1)
unfolding product
product_more q pivots i x y e d = rw (add-one i) (d ∙ ap (λ z. (z * pivots i) % q) e)

module _ (q r : ℕ) (pivots : ℕ → ℕ) (w : Pivots q r pivots) where
  pub product_small : (i : ℕ) → product q pivots i < q
  unfolding product
  product_small zero = w.prime.big
  product_small (suc i) = mod-lt _ (pos q w.prime)

  pub product_nonzero : (i : ℕ) → i ≤ r → product q pivots i ≢ 0
  product_nonzero zero h = unfold product in λ e. omega arith
  product_nonzero (suc i) h = go (product_nonzero i (omega arith))
    where
      go : product q pivots i ≢ 0 → product q pivots (suc i) ≢ 0
      go z = unfold product in nonzero_product q w.prime _ _ (product_small i) (w.small i (omega arith)) z (w.nonzero i (omega arith))

-- rest is the inverse of the first i + 1 pivots' product: times the first i it inverts pivot i, times pivot i it inverts the first i
module _ (q : ℕ) (pivots : ℕ → ℕ) (i rest : ℕ) (one : (product q pivots (i + 1) * rest) % q ≡ 1) where
  spread : (product q pivots i * pivots i * rest) % q ≡ 1
  unfolding product
  spread = sym (mod_mul_mod (product q pivots i * pivots i) rest q) ∙ (rw (add-one i) at one)

  pub inverts_pivot : (x y : ℕ) → x ≡ product q pivots i → y ≡ (rest * x) % q → (pivots i * y) % q ≡ 1
  inverts_pivot x y e d =
      ap (λ z. (pivots i * z) % q) (d ∙ ap (λ z. (rest * z) % q) e)
      ∙ mul_mod_mod (pivots i) (rest * product q pivots i) q
      ∙ ap (λ z. z % q) (turn (pivots i) rest (product q pivots i)) ∙ spread
    where
      turn : (a b c : ℕ) → a * (b * c) ≡ c * a * b
      turn a b c = omega arith

  pub inverts_rest : (y : ℕ) → y ≡ (rest * pivots i) % q → (product q pivots i * y) % q ≡ 1
  inverts_rest y d =
      ap (λ z. (product q pivots i * z) % q) d ∙ mul_mod_mod (product q pivots i) (rest * pivots i) q
      ∙ ap (λ z. z % q) (turn (product q pivots i) rest (pivots i)) ∙ spread
    where
      turn : (a b c : ℕ) → a * (b * c) ≡ a * c * b
      turn a b c = omega arith

-- P holds of the elements from i + 1 on; with v stored at i, of which it holds, it holds of those from i on
pub stored_down : (P : ℕ → ℕ → Type 0) (l : List ℕ) (i r v : ℕ) → i < length l → ((k : ℕ) → i + 1 ≤ k → k < r → P k (element l k)) → P i v
    → (k : ℕ) → i ≤ k → k < r → P k (element (set l i v) k)
stored_down P l i r v h later here k low high = go (ℕ_discrete k i)
  where
    go : Dec (k ≡ i) → P k (element (set l i v) k)
    go (yes e) = rw (e, get_or-set_same l i v 0 h) here
    go (no e) = rw (get_or-set_other l i k v 0 e) (later k (omega arith) high)

-- the same pivots
pub pivots_ext : (q r : ℕ) (p p' : ℕ → ℕ) → ((i : ℕ) → i < r → p' i ≡ p i) → Pivots q r p → Pivots q r p'
pivots_ext q r p p' h w = record { prime = w.prime; small = λ i l. rw (h i l) (w.small i l); nonzero = λ i l e. w.nonzero i l (sym (h i l) ∙ e) }

-- ---- a row, an element at a time

module _ (q : ℕ) (row : List ℕ) where
  pub products_none : (out : List ℕ) → Products q row 0 out out 1
  unfolding product
  products_none out = record { long = refl; whole = refl; each = λ i h. absurd (omega arith) }

  pub products_more : (m all y : ℕ) (before now : List ℕ) → m < length before → Products q row m before now all → y ≡ (all * element row m) % q
      → Products q row (m + 1) before (set now m all) y
  products_more m all y before now h w e = record {
    long = length-set now m all ∙ w.long;
    whole = product_more q (element row) m all y w.whole e;
    each = stored_more (λ k x. x ≡ product q (element row) k) now m all 0 (omega (arith, w.long)) w.each w.whole;
  }

  pub inverted_none : (out : List ℕ) → length out ≡ length row → Inverted q row (length row) out
  inverted_none out long = record { long = long; small = λ k h l. absurd (omega arith); one = λ w k h l. absurd (omega arith) }

  pub inverted_more : (i v : ℕ) (out : List ℕ) → i < length row → Inverted q row (i + 1) out → v < q
      → (Pivots q (length row) (element row) → (element row i * v) % q ≡ 1) → Inverted q row i (set out i v)
  inverted_more i v out h w low one = record {
    long = length-set out i v ∙ w.long;
    small = stored_down (λ k x. x < q) out i (length row) v (omega (arith, w.long)) w.small low;
    one = λ p. stored_down (λ k x. (element row k * x) % q ≡ 1) out i (length row) v (omega (arith, w.long)) (w.one p) (one p);
  }
