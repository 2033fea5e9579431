-- Which rank has a given class and partner layer.
use mathlib.Core.Path.{◌≡◌, refl, sym, ap, ◌∙◌}
use mathlib.Core.Bool.{Bool, true, false, cond}
use mathlib.Core.List.{List}
use Prim.Native.Nat.{ℕ, ◌+◌, ◌-◌, ◌*◌, ◌/◌, ◌%◌, ◌≤◌, ◌<◌}
use native.Mathlib.Decide.{dec_lt}
use native.Mathlib.Nat.{le_refl, mul_comm, mul-le-mul_left, mul-mod_right, mul-div_right, div-le_self, mod-le}
use native.Mathlib.Omega.{arith}
use lib.Dec.{ltb, eqb}
use lib.ListN.{length}
use lib.Arith.{digits_div, digits_mod}
use borrow.Author.Tests.{ltb-true, ltb-false, lt-ltb, le-ltb, eq-eqb, ne_eqb}
use Rattle.classes.specs.Classes.{batch, top, rank_class, partner, turning_rank, rank_at}
use Rattle.classes.proofs.Sizes.{parts, batch_whole, batch_pos, first_lt}

-- a rank with its class and its partner layer
pub record Rank (dead : List ℕ) (u c w : ℕ) : Type 0 where
  pub below : u < length dead
  pub class : rank_class dead u ≡ c
  pub partnered : partner dead u ≡ w

pub partner_lt : (dead : List ℕ) (u : ℕ) → u < length dead → partner dead u < batch dead
unfolding partner
partner_lt dead u h = go (ltb (u / batch dead) (top dead)) refl
  where
    go : (t : Bool) → ltb (u / batch dead) (top dead) ≡ t → cond t (u % batch dead) (u % batch dead + 1) < batch dead
    go true e = (parts dead u h).rest
    go false e =
        let p = parts dead u h in
        omega (arith, p.last (omega (arith, p.first, ltb-false (u / batch dead) (top dead) e)))

-- by the table of document 01
rank_first : (dead : List ℕ) (u v : ℕ) → u / batch dead ≡ v → u % batch dead ≡ 0 → v < top dead → (rank_class dead u ≡ 0) × (partner dead u ≡ 0)
unfolding rank_class partner
rank_first dead u v e d h =
    let l = lt-ltb (u / batch dead) (top dead) (rw e h) in
    (rw (l, eq-eqb (u % batch dead) 0 d), rw l d)

rank_inner : (dead : List ℕ) (u v w : ℕ) → u / batch dead ≡ v → u % batch dead ≡ w → v < top dead → 0 < w → (rank_class dead u ≡ v) × (partner dead u ≡ w)
unfolding rank_class partner
rank_inner dead u v w e d h p =
    let l = lt-ltb (u / batch dead) (top dead) (rw e h) in
    (rw (l, ne_eqb (u % batch dead) 0 (λ z. omega arith)) e, rw l d)

rank_last : (dead : List ℕ) (u w : ℕ) → u / batch dead ≡ top dead → u % batch dead ≡ w → (rank_class dead u ≡ top dead) × (partner dead u ≡ w + 1)
unfolding rank_class partner
rank_last dead u w e d =
    let l = le-ltb (u / batch dead) (top dead) (omega (arith, e)) in
    (rw l, rw l (ap (λ x. x + 1) d))

div_at : (dead : List ℕ) (v w : ℕ) → w < batch dead → (batch dead * v + w) / batch dead ≡ v
div_at dead v w h = rw (mul_comm (batch dead) v) (digits_div v h)

mod_at : (dead : List ℕ) (v w : ℕ) → w < batch dead → (batch dead * v + w) % batch dead ≡ w
mod_at dead v w h = rw (mul_comm (batch dead) v) (digits_mod v h)

pub turning_rank_lem : (dead : List ℕ) (c : ℕ) → 1 ≤ c → c ≤ top dead → Rank dead (turning_rank dead c) 0 0
unfolding turning_rank
turning_rank_lem dead c p h =
    let r = rank_first dead (batch dead * (c - 1)) (c - 1) (mul-div_right (c - 1) (batch_pos dead)) (mul-mod_right (batch dead) (c - 1)) (omega arith) in
    record { below = first_lt dead (c - 1) (omega arith); class = r.0; partnered = r.1 }

inner_rank : (dead : List ℕ) (c w : ℕ) → 1 ≤ w → w < batch dead → c < top dead → Rank dead (batch dead * c + w) c w
inner_rank dead c w p h l =
    let r = rank_inner dead (batch dead * c + w) c w (div_at dead c w h) (mod_at dead c w h) l p in
    record { below = omega (arith, batch_whole dead, mul-le-mul_left (batch dead) l); class = r.0; partnered = r.1 }

last_rank : (dead : List ℕ) (c w : ℕ) → 1 ≤ w → w < batch dead → c ≡ top dead → Rank dead (batch dead * c + w - 1) c w
last_rank dead c w p h e =
    let z : batch dead * c + w - 1 ≡ batch dead * c + (w - 1) = omega arith in
    let i : w - 1 < batch dead = omega arith in
    let r = rank_last dead (batch dead * c + w - 1) (w - 1) (rw z (div_at dead c (w - 1) i) ∙ e) (rw z (mod_at dead c (w - 1) i)) in
    record { below = omega (arith, batch_whole dead, ap (λ x. batch dead * x) e); class = r.0 ∙ sym e; partnered = r.1 ∙ omega arith }

pub rank_at_lem : (dead : List ℕ) (c w : ℕ) → 1 ≤ w → w < batch dead → c ≤ top dead → Rank dead (rank_at dead c w) c w
unfolding rank_at
rank_at_lem dead c w p h l = go (ltb c (top dead)) refl
  where
    go : (t : Bool) → ltb c (top dead) ≡ t → Rank dead (cond t (batch dead * c + w) (batch dead * c + w - 1)) c w
    go true e = inner_rank dead c w p h (ltb-true c (top dead) e)
    go false e = last_rank dead c w p h (omega (arith, ltb-false c (top dead) e))

pub rank_class_le : (dead : List ℕ) (u : ℕ) → rank_class dead u ≤ top dead
unfolding rank_class
rank_class_le dead u = go (dec_lt (u / batch dead) (top dead))
  where
    inner : (t : Bool) → u / batch dead < top dead → cond t 0 (u / batch dead) ≤ top dead
    inner true l = omega arith
    inner false l = omega arith

    go : Dec (u / batch dead < top dead) → rank_class dead u ≤ top dead
    go (yes l) = rw (lt-ltb (u / batch dead) (top dead) l) (inner (eqb (u % batch dead) 0) l)
    go (no l) = rw (le-ltb (u / batch dead) (top dead) (omega arith)) (le_refl (top dead))

-- rank 0 has class 0
pub rank_zero : (dead : List ℕ) → rank_class dead 0 ≡ 0
rank_zero dead = go (dec_lt (0 / batch dead) (top dead))
  where
    go : Dec (0 / batch dead < top dead) → rank_class dead 0 ≡ 0
    go (yes l) = (rank_first dead 0 (0 / batch dead) refl (omega (arith, mod-le 0 (batch dead))) l).0
    go (no l) = omega (arith, rank_class_le dead 0, div-le_self 0 (batch dead))
