-- Which rank's sums end at a place: each place but class 0 of layer 0 is the other place of one rank's sum, and of no other's.
use mathlib.Core.Path.{◌≡◌, sym, ap, ap₂, ◌∙◌}
use mathlib.Core.Logic.{◌≢◌, ◌⊎◌, inl, inr}
use mathlib.Core.Bool.{Bool, cond}
use mathlib.Core.List.{List}
use Prim.Native.Nat.{ℕ, ◌+◌, ◌*◌, ◌-◌, ◌/◌, ◌%◌, ◌≤◌, ◌<◌}
use native.Mathlib.Decide.{ℕ_discrete, dec_lt}
use native.Mathlib.Nat.{eq_of_mul-eq-mul_left}
use native.Mathlib.Omega.{arith}
use borrow.Author.Tests.{lt-ltb}
use lib.Bits.{xor_self}
use lib.Dec.{eqb}
use lib.ListN.{length}
use Rattle.lists.specs.Digits.{flip}
use Rattle.lists.proofs.Tests.{cond_equal, cond_unequal, cond_below, cond_beyond}
use Rattle.shape.specs.declared.Shape.{Shape}
use Rattle.classes.specs.Classes.{batch, top, node, class_of, rank_class, partner, turning_rank, rank_at}
use Rattle.classes.proofs.Sizes.{batch_pos, parts}
use Rattle.classes.proofs.Dead.{Dead}
use Rattle.classes.proofs.Turns.{class_le, class_turned, partner_keeps}
use Rattle.classes.proofs.Ranks.{turning_rank_lem, rank_at_lem}
use Rattle.steps.proofs.Storing.{turning, turning_class}

pub provider : List ℕ → ℕ → ℕ → ℕ
provider dead w a = cond (eqb w 0) (turning_rank dead (class_of dead a)) (rank_at dead (class_of dead a) w)

pub provider_zero : (dead : List ℕ) (w a : ℕ) → w ≡ 0 → provider dead w a ≡ turning_rank dead (class_of dead a)
unfolding provider
provider_zero dead w a e = cond_equal _ _ w 0 e

pub provider_more : (dead : List ℕ) (w a : ℕ) → w ≢ 0 → provider dead w a ≡ rank_at dead (class_of dead a) w
unfolding provider
provider_more dead w a e = cond_unequal _ _ w 0 e

-- class 0 of layer 0
abbrev pub Origin : List ℕ → ℕ → ℕ → Type 0
Origin dead w a = (w ≡ 0) × (class_of dead a ≡ 0)

pub origin_or_not : (dead : List ℕ) (w a : ℕ) → Origin dead w a ⊎ (Origin dead w a → ⊥)
origin_or_not dead w a = go (ℕ_discrete w 0) (ℕ_discrete (class_of dead a) 0)
  where
    go : Dec (w ≡ 0) → Dec (class_of dead a ≡ 0) → Origin dead w a ⊎ (Origin dead w a → ⊥)
    go (yes e) (yes f) = inl (e, f)
    go (yes e) (no f) = inr (λ o. f o.1)
    go (no e) f = inr (λ o. e o.0)

-- a rank that is not of class 0 has the class of its batch, and comes behind the rank that turns it
pub class_first : (dead : List ℕ) (u : ℕ) → u < length dead → rank_class dead u ≢ 0 → rank_class dead u ≡ u / batch dead
unfolding rank_class
class_first dead u h d = go (dec_lt (u / batch dead) (top dead)) (ℕ_discrete (u % batch dead) 0)
  where
    inner : Bool → ℕ
    inner t = cond t 0 (u / batch dead)

    go : Dec (u / batch dead < top dead) → Dec (u % batch dead ≡ 0) → rank_class dead u ≡ u / batch dead
    go (yes l) (yes z) = absurd (d (cond_below _ _ (u / batch dead) (top dead) l ∙ cond_equal _ _ (u % batch dead) 0 z))
    go (yes l) (no z) = cond_below _ _ (u / batch dead) (top dead) l ∙ cond_unequal _ _ (u % batch dead) 0 z
    go (no l) z = cond_beyond _ _ (u / batch dead) (top dead) (omega arith) ∙ (let p = (parts dead u h).first in omega arith)

pub turned_before : (dead : List ℕ) (u : ℕ) → u < length dead → rank_class dead u ≢ 0 → turning_rank dead (rank_class dead u) < u
unfolding turning_rank
turned_before dead u h d =
    let e = class_first dead u h d in
    let p = (parts dead u h).whole in
    let k : u / batch dead - 1 + 1 ≡ u / batch dead = omega arith in
    let m : batch dead * (u / batch dead - 1) + batch dead ≡ batch dead * (u / batch dead) = ap (λ z. z) (omega (arith, ap (λ z. batch dead * z) k)) in
    rw e (omega (arith, batch_pos dead))

-- the rank of a class and a partner layer
pub rank_of : (dead : List ℕ) (u : ℕ) → u < length dead → partner dead u ≢ 0 → rank_at dead (rank_class dead u) (partner dead u) ≡ u
unfolding rank_at partner rank_class
rank_of dead u h d = go (dec_lt (u / batch dead) (top dead))
  where
    go : Dec (u / batch dead < top dead) → rank_at dead (rank_class dead u) (partner dead u) ≡ u
    go (yes l) =
        let t = lt-ltb (u / batch dead) (top dead) l in
        let p : partner dead u ≡ u % batch dead = cond_below _ _ (u / batch dead) (top dead) l in
        let r : rank_class dead u ≡ u / batch dead =
        cond_below _ _ (u / batch dead) (top dead) l ∙ cond_unequal _ _ (u % batch dead) 0 (λ z. d (p ∙ z)) in
        ap₂ (rank_at dead) r p ∙ cond_below _ _ (u / batch dead) (top dead) l ∙ sym (parts dead u h).whole
    go (no l) =
        let p : partner dead u ≡ u % batch dead + 1 = cond_beyond _ _ (u / batch dead) (top dead) (omega arith) in
        let r : rank_class dead u ≡ top dead = cond_beyond _ _ (u / batch dead) (top dead) (omega arith) in
        let f = parts dead u h in
        let q : u / batch dead ≡ top dead = omega (arith, f.first) in
        ap₂ (rank_at dead) r p ∙ cond_beyond _ _ (top dead) (top dead) (omega arith)
        ∙ omega (arith, f.whole, ap (λ z. batch dead * z) q)

pub turning_own : (dead : List ℕ) (c d : ℕ) → 1 ≤ c → 1 ≤ d → turning_rank dead c ≡ turning_rank dead d → c ≡ d
unfolding turning_rank
turning_own dead c d h k e = let z = eq_of_mul-eq-mul_left (batch dead) (batch_pos dead) (c - 1) (d - 1) e in omega arith

module _ {s : Shape} {dead : List ℕ} (D : Dead s dead) where
  pub provider_lt : (w a : ℕ) → w < batch dead → (Origin dead w a → ⊥) → provider dead w a < length dead
  provider_lt w a h o = go (ℕ_discrete w 0)
    where
      go : Dec (w ≡ 0) → provider dead w a < length dead
      go (yes e) = rw (provider_zero dead w a e) (turning_rank_lem dead (class_of dead a) (pos (ℕ_discrete (class_of dead a) 0)) (class_le dead a)).below
        where
          pos : Dec (class_of dead a ≡ 0) → 1 ≤ class_of dead a
          pos (yes z) = absurd (o (e, z))
          pos (no z) = omega arith
      go (no e) = rw (provider_more dead w a e) (rank_at_lem dead (class_of dead a) w (omega arith) h (class_le dead a)).below

  -- the place is the other place of a sum of its provider
  pub record Target (u w a : ℕ) : Type 0 where
    pub layer : partner dead u ≡ w
    pub inside : class_of dead (flip (node dead u) a) ≡ rank_class dead u

  pub target : (u w a : ℕ) → w < batch dead → provider dead w a ≡ u → (Origin dead w a → ⊥) → Target u w a
  target u w a h e o = go (ℕ_discrete w 0)
    where
      go : Dec (w ≡ 0) → Target u w a
      go (yes z) =
          let q : turning_rank dead (class_of dead a) ≡ u = sym (provider_zero dead w a z) ∙ e in
          let p : 1 ≤ class_of dead a = pos (ℕ_discrete (class_of dead a) 0) in
          let r = turning_rank_lem dead (class_of dead a) p (class_le dead a) in
          record {
            layer = ap (partner dead) (sym q) ∙ r.partnered ∙ sym z;
            inside =
                ap (λ t. class_of dead (flip (node dead t) a)) (sym q) ∙ class_turned D (class_of dead a) a p (class_le dead a)
                ∙ xor_self (class_of dead a) ∙ sym r.class ∙ ap (rank_class dead) q;
          }
        where
          pos : Dec (class_of dead a ≡ 0) → 1 ≤ class_of dead a
          pos (yes y) = absurd (o (z, y))
          pos (no y) = omega arith
      go (no z) =
          let q : rank_at dead (class_of dead a) w ≡ u = sym (provider_more dead w a z) ∙ e in
          let r = rank_at_lem dead (class_of dead a) w (omega arith) h (class_le dead a) in
          let l : u < length dead = rw q at r.below in
          let pu : partner dead u ≡ w = ap (partner dead) (sym q) ∙ r.partnered in
          record { layer = pu; inside = partner_keeps D u a l (λ y. z (sym pu ∙ y)) ∙ sym r.class ∙ ap (rank_class dead) q }

  -- and a sum ends at a place of which its rank is the provider
  pub source : (u a : ℕ) → u < length dead → class_of dead a ≡ rank_class dead u
      → (provider dead (partner dead u) (flip (node dead u) a) ≡ u) × (Origin dead (partner dead u) (flip (node dead u) a) → ⊥)
  source u a l k = go (ℕ_discrete (partner dead u) 0)
    where
      go : Dec (partner dead u ≡ 0) → (provider dead (partner dead u) (flip (node dead u) a) ≡ u) × (Origin dead (partner dead u) (flip (node dead u) a) → ⊥)
      go (yes z) =
          let f = turning_class D u l a z k in (
            provider_zero dead (partner dead u) (flip (node dead u) a) z ∙ ap (turning_rank dead) f ∙ sym (turning dead u l z).is,
            λ o. omega (arith, sym o.1 ∙ f),
          )
      go (no z) = (
        provider_more dead (partner dead u) (flip (node dead u) a) z
            ∙ ap (λ y. rank_at dead y (partner dead u)) (partner_keeps D u a l z ∙ k) ∙ rank_of dead u l z,
        λ o. z o.0,
      )
