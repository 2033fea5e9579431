-- The places of a rank's sums: no two are one.
use mathlib.Core.Path.{◌≡◌, refl, sym, ap, ◌∙◌}
use mathlib.Core.Bool.{cond}
use mathlib.Core.List.{List}
use Prim.Native.Nat.{ℕ, zero, suc, ◌+◌, ◌*◌, ◌-◌, ◌/◌, ◌%◌, ◌^◌, ◌<◌}
use native.Mathlib.Decide.{dec_lt}
use native.Mathlib.Nat.{mul_comm}
use native.Mathlib.Omega.{arith}
use borrow.Author.Tests.{lt-ltb, le-ltb, eq-eqb}
use lib.Arith.{digits_div, digits_mod}
use lib.Bits.{bit_xor, xor_zero_l}
use lib.ListN.{length}
use Rattle.lists.specs.Digits.{flip}
use Rattle.lists.proofs.Flips.{flip_flip}
use Rattle.field.specs.Residues.{minus}
use Rattle.shape.specs.declared.Shape.{Shape}
use Rattle.code.specs.Code.{Code}
use Rattle.classes.specs.Classes.{batch, top, node, class_of, rank_class, partner, turning_rank, place_of, Sum, sum_at, sum_place, message_size}
use Rattle.steps.specs.Storing.{sum_symbol, Crossed}
use Rattle.classes.proofs.Sizes.{batch_pos, parts}
use Rattle.classes.proofs.Ranks.{partner_lt}
use Rattle.classes.proofs.Dead.{Dead, flip_node_lt}
use Rattle.classes.proofs.Turns.{class_turns}
use Rattle.classes.proofs.Sums.{sum_at_lt}

-- ---- places

module _ (s : Shape) (dead : List ℕ) (w b a w' b' a' : ℕ) (h : w < batch dead) (h' : w' < batch dead) (k : a < 2 ^ s.n) (k' : a' < 2 ^ s.n)
    (e : place_of s dead w b a ≡ place_of s dead w' b' a') where
  -- a place tells its layer, batch and a
  pub place_own : (w ≡ w') × (b ≡ b') × (a ≡ a')
  unfolding place_of
  place_own =
      let P = 2 ^ s.n in
      let row : batch dead * b + w ≡ batch dead * b' + w' = sym (digits_div (batch dead * b + w) k) ∙ ap (λ z. z / P) e ∙ digits_div (batch dead * b' + w') k' in
      let row' : b * batch dead + w ≡ b' * batch dead + w' = omega (arith, mul_comm (batch dead) b, mul_comm (batch dead) b') in (
        sym (digits_mod b h) ∙ ap (λ z. z % batch dead) row' ∙ digits_mod b' h',
        sym (digits_div b h) ∙ ap (λ z. z / batch dead) row' ∙ digits_div b' h',
        sym (digits_mod (batch dead * b + w) k) ∙ ap (λ z. z % P) e ∙ digits_mod (batch dead * b' + w') k',
      )

pub sum_first : (s : Shape) (dead : List ℕ) (u b a : ℕ) → sum_place s dead u 0 b a ≡ place_of s dead 0 b a
unfolding sum_place
sum_first s dead u b a = refl

pub sum_other : (s : Shape) (dead : List ℕ) (u b a : ℕ) → sum_place s dead u 1 b a ≡ place_of s dead (partner dead u) b (flip (node dead u) a)
unfolding sum_place
sum_other s dead u b a = refl

-- the ranks with partner layer 0 are of class 0 and turn it into another
pub record Turning (dead : List ℕ) (u : ℕ) : Type 0 where
  pub first : u / batch dead < top dead
  pub class : rank_class dead u ≡ 0
  pub is : u ≡ turning_rank dead (u / batch dead + 1)

pub turning : (dead : List ℕ) (u : ℕ) → u < length dead → partner dead u ≡ 0 → Turning dead u
unfolding partner rank_class turning_rank
turning dead u h e = go (dec_lt (u / batch dead) (top dead))
  where
    go : Dec (u / batch dead < top dead) → Turning dead u
    go (yes l) =
        let m : u % batch dead ≡ 0 = sym (ap (λ t. cond t (u % batch dead) (u % batch dead + 1)) (lt-ltb (u / batch dead) (top dead) l)) ∙ e in
        record {
          first = l;
          class = rw (lt-ltb (u / batch dead) (top dead) l, eq-eqb (u % batch dead) 0 m);
          is = let p = (parts dead u h).whole in let q : u / batch dead + 1 - 1 ≡ u / batch dead = omega arith in rw q (omega (arith, p));
        }
    go (no l) =
        absurd (let z : u % batch dead + 1 ≡ 0 = sym (ap (λ t. cond t (u % batch dead) (u % batch dead + 1)) (le-ltb (u / batch dead) (top dead) (omega arith))) ∙ e in omega arith)

module _ {s : Shape} {dead : List ℕ} (D : Dead s dead) (u : ℕ) (l : u < length dead) where
  -- the class of the other place of a sum of partner layer 0
  pub turning_class : (a : ℕ) → partner dead u ≡ 0 → class_of dead a ≡ rank_class dead u → class_of dead (flip (node dead u) a) ≡ u / batch dead + 1
  unfolding turning_rank
  turning_class a e k =
      let T = turning dead u l e in
      let q : u / batch dead + 1 - 1 ≡ u / batch dead = omega arith in
      let i : u ≡ batch dead * (u / batch dead) = T.is ∙ ap (λ z. batch dead * z) q in
      ap (λ z. class_of dead (flip (node dead z) a)) i ∙ class_turns D (u / batch dead) a T.first
      ∙ ap (λ z. bit_xor z (u / batch dead + 1)) (k ∙ T.class) ∙ xor_zero_l (u / batch dead + 1)

  module _ (b a b' a' : ℕ) (S : Sum s dead u b a) (S' : Sum s dead u b' a') where
    pub firsts_own : sum_place s dead u 0 b a ≡ sum_place s dead u 0 b' a' → (b ≡ b') × (a ≡ a')
    firsts_own e =
        let w = place_own s dead 0 b a 0 b' a' (batch_pos dead) (batch_pos dead) S.below S'.below (sym (sum_first s dead u b a) ∙ e ∙ sum_first s dead u b' a') in
        (w.1, w.2)

    pub others_own : sum_place s dead u 1 b a ≡ sum_place s dead u 1 b' a' → (b ≡ b') × (a ≡ a')
    others_own e =
        let w = place_own s dead (partner dead u) b (flip (node dead u) a) (partner dead u) b' (flip (node dead u) a') (partner_lt dead u l) (partner_lt dead u l)
        (flip_node_lt D u a l S.below) (flip_node_lt D u a' l S'.below) (sym (sum_other s dead u b a) ∙ e ∙ sum_other s dead u b' a') in
        (w.1, sym (flip_flip (node dead u) a) ∙ ap (flip (node dead u)) w.2 ∙ flip_flip (node dead u) a')

    -- no first place is an other place
    pub first_other : sum_place s dead u 0 b a ≡ sum_place s dead u 1 b' a' → ⊥
    first_other e =
        let w = place_own s dead 0 b a (partner dead u) b' (flip (node dead u) a') (batch_pos dead) (partner_lt dead u l)
        S.below (flip_node_lt D u a' l S'.below) (sym (sum_first s dead u b a) ∙ e ∙ sum_other s dead u b' a') in
        let z : partner dead u ≡ 0 = sym w.0 in
        omega (arith, sym (S.inside ∙ (turning dead u l z).class) ∙ ap (class_of dead) w.2 ∙ turning_class a' z S'.inside)

    pub sums_own : (which : ℕ) → which < 2 → sum_place s dead u which b a ≡ sum_place s dead u which b' a' → (b ≡ b') × (a ≡ a')
    sums_own zero h = firsts_own
    sums_own (suc zero) h = others_own
    sums_own (suc (suc w)) h = absurd (omega arith)

  pub sums_apart : (b a b' a' : ℕ) → Sum s dead u b a → Sum s dead u b' a' → (which : ℕ) → which < 2
      → sum_place s dead u (1 - which) b a ≡ sum_place s dead u which b' a' → ⊥
  sums_apart b a b' a' S S' zero h e = first_other b' a' b a S' S (sym e)
  sums_apart b a b' a' S S' (suc zero) h e = first_other b a b' a' S S' e
  sums_apart b a b' a' S S' (suc (suc w)) h e = absurd (omega arith)

-- sums that agree leave the same
pub crossed_sums : (c : Code) {s : Shape} {dead : List ℕ} → Dead s dead → (u which : ℕ) (f g : ℕ → ℕ) (S T : List ℕ)
    → ((x : ℕ) → x < message_size s dead → f x ≡ g x) → Crossed c s dead u which f S T → Crossed c s dead u which g S T
crossed_sums c {s} {dead} D u which f g S T e C = record {
  long = C.long;
  each = λ b a Q. C.each b a Q ∙ ap (λ z. minus c.modulus z (sum_symbol s dead u (1 - which) b a S)) (e (sum_at s dead u b a) (sum_at_lt D u b a Q));
  rest = C.rest;
}
