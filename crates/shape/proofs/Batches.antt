-- The odd part of a number: what it is, and the loop that halves while it can.
use mathlib.Core.Path.{◌≡◌, refl, sym, ◌∙◌}
use mathlib.Core.Bool.{Bool, true, false, cond}
use Prim.Native.Nat.{ℕ, zero, suc, ◌+◌, ◌*◌, ◌/◌, ◌%◌, ◌^◌, ◌≤◌, ◌<◌}
use native.Mathlib.Nat.{pow-suc, mul-one}
use native.Mathlib.Omega.{arith}
use borrow.Author.Tests.{eqb-true, eqb-false, eq-eqb, ne_eqb}
use lib.Dec.{eqb}
use Rattle.shape.specs.Batches.{odd_part}

-- x is the odd number o times a power of 2
pub record Parted (x o : ℕ) : Type 0 where
  pub power : ℕ
  pub whole : x ≡ o * 2 ^ power
  pub odd : o % 2 ≡ 1

pub parted : (fuel x : ℕ) → 0 < x → x ≤ fuel + 1 → Parted x (odd_part fuel x)
unfolding odd_part
parted zero x p h = record { power = 0; whole = sym (mul-one x); odd = rw (let e : x ≡ 1 = omega arith in e) }
parted (suc fuel) x p h = go (parted fuel (x / 2)) (eqb (x % 2) 0) refl
  where
    go : (0 < x / 2 → x / 2 ≤ fuel + 1 → Parted (x / 2) (odd_part fuel (x / 2))) → (t : Bool) → eqb (x % 2) 0 ≡ t
        → Parted x (cond t (odd_part fuel (x / 2)) x)
    go ih true e =
        let z : x % 2 ≡ 0 = eqb-true (x % 2) 0 e in
        let r = ih (omega arith) (omega arith) in
        record { power = suc r.power; whole = rw (pow-suc 2 r.power) (omega (arith, r.whole)); odd = r.odd }
    go ih false e = record { power = 0; whole = sym (mul-one x); odd = omega (arith, eqb-false (x % 2) 0 e) }

-- the s of h + 1, by which layers are counted
pub batch_parted : (h : ℕ) → Parted (h + 1) (odd_part h (h + 1))
batch_parted h = parted h (h + 1) (omega arith) (omega arith)

pub batch_positive : (h : ℕ) → 0 < odd_part h (h + 1)
batch_positive h = omega (arith, (batch_parted h).odd)

-- ---- the loop: x is what is left, and `fuel` the halvings that may still come

pub odd_done : (fuel x : ℕ) → (x % 2 ≡ 0 → ⊥) → odd_part fuel x ≡ x
unfolding odd_part
odd_done zero x e = refl
odd_done (suc fuel) x e = rw (ne_eqb (x % 2) 0 e)

-- enough fuel is as good as more
more_fuel : (fuel x : ℕ) → 0 < x → x ≤ fuel + 1 → odd_part fuel x ≡ odd_part (suc fuel) x
unfolding odd_part
more_fuel zero x p h = rw (let e : x ≡ 1 = omega arith in e)
more_fuel (suc fuel) x p h = go (more_fuel fuel (x / 2)) (eqb (x % 2) 0) refl
  where
    go : (0 < x / 2 → x / 2 ≤ fuel + 1 → odd_part fuel (x / 2) ≡ odd_part (suc fuel) (x / 2)) → (t : Bool) → eqb (x % 2) 0 ≡ t
        → cond t (odd_part fuel (x / 2)) x ≡ cond t (odd_part (suc fuel) (x / 2)) x
    go ih true e = let z : x % 2 ≡ 0 = eqb-true (x % 2) 0 e in ih (omega arith) (omega arith)
    go ih false e = refl

-- with the fuel of the start throughout
pub odd_half : (fuel x : ℕ) → 0 < x → x ≤ fuel + 1 → x % 2 ≡ 0 → odd_part fuel x ≡ odd_part fuel (x / 2)
unfolding odd_part
odd_half fuel x p h e = more_fuel fuel x p h ∙ rw (eq-eqb (x % 2) 0 e)

-- there is one way to write a number as an odd number times a power of 2
pub odd_only : (power fuel x o : ℕ) → 0 < x → x ≤ fuel + 1 → o % 2 ≡ 1 → x ≡ o * 2 ^ power → odd_part fuel x ≡ o
odd_only zero fuel x o p h odd e = let one : x ≡ o = e ∙ mul-one o in odd_done fuel x (λ z. omega arith) ∙ one
odd_only (suc power) fuel x o p h odd e =
    let twice : x ≡ o * 2 ^ power * 2 = e ∙ rw (pow-suc 2 power) (omega arith) in
    odd_half fuel x p h (omega arith) ∙ odd_only power fuel (x / 2) o (omega arith) (omega arith) odd (omega arith)
