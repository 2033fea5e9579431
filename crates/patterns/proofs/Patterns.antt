-- Patterns, a node at a time.
use mathlib.Core.Path.{◌≡◌, refl, sym, ap, ap₂, ◌∙◌}
use mathlib.Core.Bool.{Bool, true, false, true≢false}
use mathlib.Core.List.{List}
use Prim.Native.Nat.{ℕ, zero, suc, ◌+◌, ◌-◌, ◌*◌, ◌/◌, ◌%◌, ◌^◌, ◌<◌, ◌≤◌}
use native.Mathlib.Nat.{pow-succ', mul-le-mul, mul-le-mul_right}
use native.Mathlib.Numerals.{add-one}
use native.Mathlib.Omega.{arith}
use lib.ListN.{get_or}
use lib.Pow.{pow_mono, pow_pos}
use Rattle.lists.specs.Digits.{bit}
use Rattle.lists.proofs.Flips.{bit_lt, bit_zero, bit_suc}
use Rattle.shape.specs.Shape.{most_nodes}
use Rattle.rows.specs.Rows.{Stored}
use Rattle.patterns.specs.Patterns.{pattern, patterns, lengthened, Making, Stands}

twice : (m : ℕ) → 2 ^ (m + 1) ≡ 2 * 2 ^ m
twice m = rw (add-one m) (pow-succ' 2 m)

module _ (marked : List Bool) where
  pub pattern_none : (a : ℕ) → pattern marked a 0 ≡ 0
  unfolding pattern
  pattern_none a = refl

  pub pattern_skip : (a m : ℕ) → get_or marked m false ≡ true → pattern marked a (m + 1) ≡ pattern marked a m
  unfolding pattern
  pattern_skip a m e = rw (add-one m) (rw e refl)

  pub pattern_more : (a m : ℕ) → get_or marked m false ≡ false → pattern marked a (m + 1) ≡ 2 * pattern marked a m + bit m a
  unfolding pattern
  pattern_more a m e = rw (add-one m) (rw e refl)

  pub patterns_none : patterns marked 0 ≡ 1
  unfolding patterns
  patterns_none = refl

  pub patterns_skip : (m : ℕ) → get_or marked m false ≡ true → patterns marked (m + 1) ≡ patterns marked m
  unfolding patterns
  patterns_skip m e = rw (add-one m) (rw e refl)

  pub patterns_more : (m : ℕ) → get_or marked m false ≡ false → patterns marked (m + 1) ≡ 2 * patterns marked m
  unfolding patterns
  patterns_more m e = rw (add-one m) (rw e refl)

  -- a pattern is one of those that there are
  pub pattern_lt : (a m : ℕ) → pattern marked a m < patterns marked m
  pattern_lt a zero = rw (pattern_none a, patterns_none) (omega arith)
  pattern_lt a (suc m) = rw (add-one m) at (go (get_or marked m false) refl (pattern_lt a m))
    where
      go : (b : Bool) → get_or marked m false ≡ b → pattern marked a m < patterns marked m → pattern marked a (m + 1) < patterns marked (m + 1)
      go true e ih = rw (pattern_skip a m e, patterns_skip m e) ih
      go false e ih = omega (arith, pattern_more a m e, patterns_more m e, ih, bit_lt m a)

  pub patterns_le : (m : ℕ) → patterns marked m ≤ 2 ^ m
  patterns_le zero = rw patterns_none (omega arith)
  patterns_le (suc m) = rw (add-one m) at (go (get_or marked m false) refl (patterns_le m))
    where
      go : (b : Bool) → get_or marked m false ≡ b → patterns marked m ≤ 2 ^ m → patterns marked (m + 1) ≤ 2 ^ (m + 1)
      go true e ih = omega (arith, patterns_skip m e, ih, twice m)
      go false e ih = omega (arith, patterns_more m e, ih, twice m)

  pub pattern_low : (a m : ℕ) → m ≤ most_nodes → pattern marked a m < 2 ^ most_nodes
  pattern_low a m h = omega (arith, pattern_lt a m, patterns_le m, pow_mono h)

  -- a row of patterns, and a node more
  pub lengthened_more : (a run node : ℕ) (before after : List ℕ) → Stored 0 run (lengthened a node before) before after
      → ((t : ℕ) → t < run → get_or before t 0 ≡ pattern marked (a + t) node) → get_or marked node false ≡ false
      → (t : ℕ) → t < run → get_or after t 0 ≡ pattern marked (a + t) (node + 1)
  unfolding lengthened
  lengthened_more a run node before after put h e t l =
      ap (λ k. get_or after k 0) (let z : t ≡ 0 + t = omega arith in z) ∙ put.there t l
      ∙ ap (λ z. 2 * z + bit node (a + t)) (h t l) ∙ sym (pattern_more (a + t) node e)

-- ---- all bits turned

pub turned_bit : (n a e : ℕ) → a < 2 ^ n → e < n → bit e (2 ^ n - 1 - a) + bit e a ≡ 1
turned_bit zero a e h l = absurd (omega arith)
turned_bit (suc n) a zero h l =
    let t : 2 ^ suc n ≡ 2 * 2 ^ n = pow-succ' 2 n in
    omega (arith, bit_zero a, bit_zero (2 ^ suc n - 1 - a), t)
turned_bit (suc n) a (suc e) h l = go (turned_bit n (a / 2) e half (omega arith))
  where
    t : 2 ^ suc n ≡ 2 * 2 ^ n
    t = pow-succ' 2 n

    half : a / 2 < 2 ^ n
    half = omega (arith, t)

    rest : (2 ^ suc n - 1 - a) / 2 ≡ 2 ^ n - 1 - a / 2
    rest = omega (arith, t)

    go : bit e (2 ^ n - 1 - a / 2) + bit e (a / 2) ≡ 1 → bit (suc e) (2 ^ suc n - 1 - a) + bit (suc e) a ≡ 1
    go ih = ap₂ ◌+◌ (bit_suc e (2 ^ suc n - 1 - a) ∙ ap (bit e) rest) (bit_suc e a) ∙ ih

-- the pattern is then the opposite one
pub pattern_turned : (marked : List Bool) (a b m : ℕ) → ((e : ℕ) → e < m → bit e b + bit e a ≡ 1) → pattern marked b m + pattern marked a m + 1 ≡ patterns marked m
pattern_turned marked a b zero h = rw (pattern_none marked a, pattern_none marked b, patterns_none marked)
pattern_turned marked a b (suc m) h = rw (add-one m) at (go (get_or marked m false) refl (pattern_turned marked a b m (λ e l. h e (omega arith))))
  where
    go : (x : Bool) → get_or marked m false ≡ x → pattern marked b m + pattern marked a m + 1 ≡ patterns marked m
        → pattern marked b (m + 1) + pattern marked a (m + 1) + 1 ≡ patterns marked (m + 1)
    go true e ih = rw (pattern_skip marked a m e, pattern_skip marked b m e, patterns_skip marked m e) ih
    go false e ih = omega (arith, pattern_more marked a m e, pattern_more marked b m e, patterns_more marked m e, ih, h m (omega arith))

-- ---- the number of a pattern

bit_first : (o d : ℕ) → d < 2 → bit 0 (2 * o + d) ≡ d
bit_first o d h = bit_zero (2 * o + d) ∙ (let z : (2 * o + d) % 2 ≡ d = omega arith in z)

bit_next : (e o d : ℕ) → d < 2 → bit (suc e) (2 * o + d) ≡ bit e o
bit_next e o d h = bit_suc e (2 * o + d) ∙ ap (bit e) (let z : (2 * o + d) / 2 ≡ o = omega arith in z)

module _ (n : ℕ) (marked : List Bool) (p : ℕ) where
  pub making_none : Making n marked p n p 0
  making_none = record { small = omega arith; left = λ a e. e; free = λ a e z h. absurd (omega arith); fixed = λ e h. absurd (omega arith) }

  pub making_low : (i rest out : ℕ) → n ≤ most_nodes → Making n marked p i rest out → out < 2 ^ most_nodes
  making_low i rest out h w = omega (arith, w.small, pow_mono h, mul-le-mul (let z : out + 1 ≤ out + 1 = omega arith in z) (pow_pos i))

  pub making_end : (rest out : ℕ) → Making n marked p 0 rest out → Stands n marked p out
  making_end rest out w = record {
    free = λ a e z h u. let s : 0 + e ≡ e = omega arith in w.free a e z (rw s h) (rw s u) ∙ ap (λ k. bit k a) s;
    fixed = λ e h u. let s : 0 + e ≡ e = omega arith in w.fixed e (rw s h) (rw s u);
  }

  module _ (i rest out : ℕ) (w : Making n marked p (i + 1) rest out) where
    room : (d : ℕ) → d < 2 → (2 * out + d + 1) * 2 ^ i ≤ 2 ^ n
    room d h = omega (arith, rw (twice i) at w.small, mul-le-mul_right (2 ^ i) (let z : 2 * out + d + 1 ≤ 2 * out + 2 = omega arith in z))

    -- the bits of the nodes behind node i stay
    later_free : (d : ℕ) → d < 2 → (a e : ℕ) → p ≡ pattern marked a n → i + suc e < n → get_or marked (i + suc e) false ≡ false → bit (suc e) (2 * out + d) ≡ bit (i + suc e) a
    later_free d h a e z l u = let s : i + suc e ≡ i + 1 + e = omega arith in bit_next e out d h ∙ w.free a e z (rw (← s) l) (rw (← s) u) ∙ ap (λ k. bit k a) (sym s)

    later_fixed : (d : ℕ) → d < 2 → (e : ℕ) → i + suc e < n → get_or marked (i + suc e) false ≡ true → bit (suc e) (2 * out + d) ≡ 0
    later_fixed d h e l u = let s : i + suc e ≡ i + 1 + e = omega arith in bit_next e out d h ∙ w.fixed e (rw (← s) l) (rw (← s) u)

    pub making_fixed : get_or marked i false ≡ true → Making n marked p i rest (2 * out)
    making_fixed m = rw (let z : 2 * out ≡ 2 * out + 0 = omega arith in z) (record {
      small = room 0 (omega arith);
      left = λ a z. w.left a z ∙ pattern_skip marked a i m;
      free = free;
      fixed = fixed;
    })
      where
        free : (a e : ℕ) → p ≡ pattern marked a n → i + e < n → get_or marked (i + e) false ≡ false → bit e (2 * out + 0) ≡ bit (i + e) a
        free a zero z l u = absurd (true≢false (sym m ∙ ap (λ k. get_or marked k false) (let s : i ≡ i + 0 = omega arith in s) ∙ u))
        free a (suc e) z l u = later_free 0 (omega arith) a e z l u

        fixed : (e : ℕ) → i + e < n → get_or marked (i + e) false ≡ true → bit e (2 * out + 0) ≡ 0
        fixed zero l u = bit_first out 0 (omega arith)
        fixed (suc e) l u = later_fixed 0 (omega arith) e l u

    pub making_free : get_or marked i false ≡ false → Making n marked p i (rest / 2) (2 * out + rest % 2)
    making_free m = record {
      small = room (rest % 2) (omega arith);
      left = λ a z. omega (arith, split a z, bit_lt i a);
      free = free;
      fixed = fixed;
    }
      where
        split : (a : ℕ) → p ≡ pattern marked a n → rest ≡ 2 * pattern marked a i + bit i a
        split a z = w.left a z ∙ pattern_more marked a i m

        free : (a e : ℕ) → p ≡ pattern marked a n → i + e < n → get_or marked (i + e) false ≡ false → bit e (2 * out + rest % 2) ≡ bit (i + e) a
        free a zero z l u = bit_first out (rest % 2) (omega arith) ∙ (let s : rest % 2 ≡ bit i a = omega (arith, split a z, bit_lt i a) in s) ∙ ap (λ k. bit k a) (let s : i ≡ i + 0 = omega arith in s)
        free a (suc e) z l u = later_free (rest % 2) (omega arith) a e z l u

        fixed : (e : ℕ) → i + e < n → get_or marked (i + e) false ≡ true → bit e (2 * out + rest % 2) ≡ 0
        fixed zero l u = absurd (true≢false (sym u ∙ ap (λ k. get_or marked k false) (let s : i + 0 ≡ i = omega arith in s) ∙ m))
        fixed (suc e) l u = later_fixed (rest % 2) (omega arith) e l u
