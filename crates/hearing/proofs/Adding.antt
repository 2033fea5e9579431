-- A message added to the kept sums, symbol by symbol.
use mathlib.Core.Path.{◌≡◌, refl, sym, ap, ap₂, ◌∙◌}
use mathlib.Core.Logic.{◌⊎◌, inl, inr}
use mathlib.Core.List.{List}
use Prim.Native.Nat.{ℕ, zero, suc, ◌+◌, ◌-◌, ◌*◌, ◌/◌, ◌%◌, ◌^◌, ◌≤◌, ◌<◌}
use native.Mathlib.Nat.{add-mod-mod, mul_comm, div_self, zero-div, mod-lt}
use native.Mathlib.Omega.{arith}
use lib.Arith.{digits_div, digits_mod}
use lib.ListN.{length, get_or, replicate}
use lib.Pow.{pow_pos}
use Rattle.lists.specs.Lists.{element}
use Rattle.lists.specs.Digits.{bit}
use Rattle.lists.proofs.Tests.{below_or_not}
use Rattle.lists.proofs.Tables.{is_tabulate}
use Rattle.lists.proofs.Flips.{bit_lt}
use Rattle.field.proofs.Residues.{mul_mod_mod}
use Rattle.column.specs.Solving.{most_entries, power_of}
use Rattle.shape.specs.declared.Shape.{Shape}
use Rattle.code.specs.Code.{Code, narrow, point}
use Rattle.rows.specs.Rows.{Stored}
use Rattle.rows.proofs.Rows.{stored_low, low_replicate}
use Rattle.classes.specs.Classes.{spot_at, message_size}
use Rattle.arrival.specs.Sums.{equations, kept_size, term_at, added_at, added_to}
use Rattle.hearing.specs.Steps.{BothPowers, summed}

-- ---- the powers of a node's two points

-- a point is known by the node's bit
point_bit : (c : Code) (a b i : ℕ) → bit i a ≡ bit i b → point c a i ≡ point c b i
unfolding point
point_bit c a b i e = rw e

clear_bit : (i : ℕ) → bit i 0 ≡ 0
unfolding bit
clear_bit i = ap (λ z. z % 2) (zero-div (2 ^ i))

set_bit : (i : ℕ) → bit i (2 ^ i) ≡ 1
unfolding bit
set_bit i = ap (λ z. z % 2) (div_self (pow_pos i))

pub both_stored : (r i : ℕ) (first second now after : List ℕ) → r ≤ most_entries → Stored 0 r (element first) (replicate (2 * most_entries) 0) now → Stored most_entries r (element second) now after
    → ((t : ℕ) → t < r → element first t ≡ power_of narrow.modulus (point narrow 0 i) t) → ((t : ℕ) → t < r → element second t ≡ power_of narrow.modulus (point narrow (2 ^ i) i) t)
    → BothPowers r i after
both_stored r i first second now after few v w f s = record {
  long = w.long ∙ v.long;
  low =
      stored_low narrow.modulus most_entries r (element second) now after w
      (stored_low narrow.modulus 0 r (element first) _ now v (low_replicate narrow.modulus (2 * most_entries) 0 (omega arith)) (λ t h. rw (f t h) (mod-lt _ (omega arith))))
      (λ t h. rw (s t h) (mod-lt _ (omega arith)));
  each = λ a t h. go a t h (bit i a) refl (bit_lt i a);
}
  where
    go : (a t : ℕ) → t < r → (b : ℕ) → bit i a ≡ b → b < 2 → element after (b * most_entries + t) ≡ power_of narrow.modulus (point narrow a i) t
    go a t h zero e l =
        w.ahead (0 * most_entries + t) (omega arith) ∙ v.there t h ∙ f t h ∙ ap (λ p. power_of narrow.modulus p t) (point_bit narrow 0 a i (clear_bit i ∙ sym e))
    go a t h (suc zero) e l = w.there t h ∙ s t h ∙ ap (λ p. power_of narrow.modulus p t) (point_bit narrow (2 ^ i) a i (set_bit i ∙ sym e))
    go a t h (suc (suc b)) e l = absurd (omega arith)

-- ---- one symbol more

-- a row behind those that are stored
stored_row : (m r : ℕ) (f g : ℕ → ℕ) (old now after : List ℕ) → Stored 0 m f old now → Stored m r g now after → ((t : ℕ) → t < r → g t ≡ f (m + t)) → Stored 0 (m + r) f old after
stored_row m r f g old now after v w same = record {
  long = w.long ∙ v.long;
  there = λ e h. go e h (below_or_not e m);
  ahead = λ e h. absurd (omega arith);
  behind = λ e h. w.behind e (omega arith) ∙ v.behind e (omega arith);
}
  where
    go : (e : ℕ) → e < m + r → (e < m) ⊎ (m ≤ e) → get_or after (0 + e) 0 ≡ f e
    go e h (inl l) = w.ahead (0 + e) (omega arith) ∙ v.there e l
    go e h (inr l) =
        let z : m + (e - m) ≡ e = omega arith in
        ap (λ k. get_or after k 0) (let y : 0 + e ≡ m + (e - m) = omega arith in y) ∙ w.there (e - m) (omega arith) ∙ same (e - m) (omega arith) ∙ ap f z

module _ (s : Shape) (dead : List ℕ) (u helper : ℕ) (message old : List ℕ) (factors : List ℕ) (P : BothPowers (equations s) helper factors) where
  abbrev due : ℕ → ℕ
  due = added_at narrow s dead u helper message old

  -- a row of sums
  summed_row : (x a symbol : ℕ) (now : List ℕ) → a ≡ (spot_at s dead u x).a → symbol ≡ get_or message x 0 → Stored 0 (x * equations s) due old now → (t : ℕ) → t < equations s
      → summed symbol factors (bit helper a * most_entries) (x * equations s) now t ≡ due (x * equations s + t)
  unfolding summed added_at term_at
  summed_row x a symbol now e f w t h =
      ap₂ (λ y z. (y + symbol * z) % narrow.modulus) (w.behind (x * equations s + t) (omega arith)) (P.each a t h)
      ∙ rest
    where
      rest : (get_or old (x * equations s + t) 0 + symbol * power_of narrow.modulus (point narrow a helper) t) % narrow.modulus
          ≡ (get_or old (x * equations s + t) 0
          + point narrow (spot_at s dead u ((x * equations s + t) / equations s)).a helper ^ ((x * equations s + t) % equations s) * get_or message ((x * equations s + t) / equations s) 0)
          % narrow.modulus
      rest =
          sym (add-mod-mod _ (symbol * power_of narrow.modulus (point narrow a helper) t) narrow.modulus)
          ∙ ap (λ z. (get_or old (x * equations s + t) 0 + z) % narrow.modulus) (mul_mod_mod symbol (point narrow a helper ^ t) narrow.modulus)
          ∙ add-mod-mod _ (symbol * point narrow a helper ^ t) narrow.modulus
          ∙ ap (λ z. (get_or old (x * equations s + t) 0 + z) % narrow.modulus) (mul_comm symbol (point narrow a helper ^ t) ∙ ap₂ (λ b v. point narrow b helper ^ t * v) e f)
          ∙ ap₂ (λ y z. (get_or old (x * equations s + t) 0 + point narrow (spot_at s dead u y).a helper ^ z * get_or message y 0) % narrow.modulus) (sym (digits_div x h)) (sym (digits_mod x h))

  pub added_row : (x a symbol : ℕ) (now after : List ℕ) → a ≡ (spot_at s dead u x).a → symbol ≡ get_or message x 0 → Stored 0 (x * equations s) due old now
      → Stored (x * equations s) (equations s) (summed symbol factors (bit helper a * most_entries) (x * equations s) now) now after
      → Stored 0 ((x + 1) * equations s) due old after
  added_row x a symbol now after e f w v =
      let z : x * equations s + equations s ≡ (x + 1) * equations s = omega arith in
      rw z at (stored_row (x * equations s) (equations s) due _ old now after w v (summed_row x a symbol now e f w))

  pub added_all : (after : List ℕ) → length old ≡ kept_size s dead → Stored 0 (message_size s dead * equations s) due old after → after ≡ added_to narrow s dead u helper message old
  unfolding added_to kept_size
  added_all after long w =
      is_tabulate after (equations s * message_size s dead) due 0 (w.long ∙ long) (λ e h. ap (λ z. get_or after z 0) (let z : e ≡ 0 + e = omega arith in z) ∙ w.there e (rw (mul_comm (equations s) (message_size s dead)) at h))
