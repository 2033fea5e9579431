-- h + 1 is b * (H + 1), with b odd and H + 1 a power of 2; the ranks by b.
use mathlib.Core.Path.{◌≡◌, sym, ap, ◌∙◌}
use mathlib.Core.List.{List}
use Prim.Native.Nat.{ℕ, ◌+◌, ◌-◌, ◌*◌, ◌/◌, ◌%◌, ◌^◌, ◌≤◌, ◌<◌}
use native.Mathlib.Nat.{mul-div_right, mul-le-mul_left, div-lt_iff_lt-mul, div-add-mod, mod-lt}
use native.Mathlib.Omega.{arith}
use lib.ListN.{length}
use lib.Pow.{pow_pos}
use Rattle.shape.proofs.Batches.{batch_parted}
use Rattle.classes.specs.Classes.{batch, top}

-- the batch, the highest class, and the power of 2 above it
pub record Sized (h b H : ℕ) : Type 0 where
  pub power : ℕ
  pub above : H + 1 ≡ 2 ^ power
  pub whole : h + 1 ≡ b * (H + 1)
  pub odd : b % 2 ≡ 1

pub sized : (dead : List ℕ) → Sized (length dead) (batch dead) (top dead)
unfolding top batch
sized dead =
    let r = batch_parted (length dead) in
    let p : 0 < batch dead = omega (arith, r.odd) in
    let e : (length dead + 1) / batch dead ≡ 2 ^ r.power = ap (λ x. x / batch dead) r.whole ∙ mul-div_right (2 ^ r.power) p in
    let a : top dead + 1 ≡ 2 ^ r.power = omega (arith, e, pow_pos r.power) in
    record { power = r.power; above = a; whole = rw a r.whole; odd = r.odd }

pub batch_whole : (dead : List ℕ) → length dead + 1 ≡ batch dead * (top dead + 1)
batch_whole dead = (sized dead).whole

pub batch_pos : (dead : List ℕ) → 0 < batch dead
batch_pos dead = omega (arith, (sized dead).odd)

-- the first ranks of the batches
pub first_lt : (dead : List ℕ) (v : ℕ) → v < top dead → batch dead * v < length dead
first_lt dead v h = omega (arith, batch_whole dead, batch_pos dead, mul-le-mul_left (batch dead) h)

-- a rank by the batch
pub record Parts (dead : List ℕ) (u : ℕ) : Type 0 where
  pub first : u / batch dead ≤ top dead
  pub rest : u % batch dead < batch dead
  pub last : u / batch dead ≡ top dead → u % batch dead < batch dead - 1
  pub whole : u ≡ batch dead * (u / batch dead) + u % batch dead

pub parts : (dead : List ℕ) (u : ℕ) → u < length dead → Parts dead u
parts dead u h =
    let w = sym (div-add-mod u (batch dead)) in
    record {
      first =
          let l : u / batch dead < top dead + 1 =
          (div-lt_iff_lt-mul (batch_pos dead)).1 (omega (arith, batch_whole dead)) in
          omega arith;
      rest = mod-lt u (batch_pos dead);
      last = λ e. omega (arith, batch_whole dead, w, ap (λ x. batch dead * x) e);
      whole = w;
    }
