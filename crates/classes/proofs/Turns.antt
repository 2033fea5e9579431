-- What flipping a node's digit does to the class.
use mathlib.Core.Path.{◌≡◌, refl, sym, ap, ap₂, ◌∙◌}
use mathlib.Core.Logic.{◌≢◌, ◌⊎◌, inl, inr}
use mathlib.Core.Bool.{Bool, true, false, cond}
use mathlib.Core.List.{List}
use Prim.Native.Nat.{ℕ, zero, suc, ◌+◌, ◌-◌, ◌*◌, ◌/◌, ◌%◌, ◌^◌, ◌≤◌, ◌<◌}
use native.Mathlib.Nat.{not-suc-le-zero, eq_of_mul-eq-mul_left, mul-mod_right, mul-div_right}
use native.Mathlib.Omega.{arith}
use native.Mathlib.Numerals.{add-one}
use native.Mathlib.Decide.{ℕ_discrete}
use lib.Dec.{eqb}
use lib.ListN.{length}
use lib.Bits.{bit_xor, xor_lt, xor_self}
use borrow.Author.Tests.{lt-ltb}
use Rattle.shape.specs.declared.Shape.{Shape}
use Rattle.lists.specs.Digits.{bit, flip}
use Rattle.classes.specs.Classes.{batch, top, node, class_by, class_of, partner, turning_rank}
use Rattle.lists.proofs.Flips.{bit_lt, flip_bit, flip_other}
use Rattle.lists.proofs.Xors.{xor_assoc, xor_right}
use Rattle.classes.proofs.Sizes.{sized, batch_pos, first_lt, parts}
use Rattle.classes.proofs.Dead.{Dead, node_own}

-- what a digit adds to the class
term : ℕ → ℕ → ℕ
term v d = cond (eqb d 1) (suc v) 0

pub class_none : (dead : List ℕ) (a : ℕ) → class_by dead 0 a ≡ 0
unfolding class_by
class_none dead a = refl

class_more : (dead : List ℕ) (v a : ℕ) → class_by dead (suc v) a ≡ bit_xor (class_by dead v a) (term v (bit (node dead (batch dead * v)) a))
unfolding class_by term
class_more dead v a = refl

pub class_by_lem : (dead : List ℕ) (a : ℕ) → class_of dead a ≡ class_by dead (top dead) a
unfolding class_of
class_by_lem dead a = refl

-- a loop that mixes in a node at a time
pub class_step : (dead : List ℕ) (v a class : ℕ) → class ≡ class_by dead v a
    → bit_xor class (cond (eqb (bit (node dead (batch dead * v)) a) 1) (v + 1) 0) ≡ class_by dead (v + 1) a
unfolding class_by
class_step dead v a class e = rw (e, add-one v)

term_le : (v d : ℕ) → term v d ≤ suc v
unfolding term
term_le v d = go (eqb d 1)
  where
    go : (t : Bool) → cond t (suc v) 0 ≤ suc v
    go true = omega arith
    go false = omega arith

term_turns : (v d : ℕ) → d < 2 → term v (1 - d) ≡ bit_xor (term v d) (suc v)
unfolding term
term_turns v zero h = refl
term_turns v (suc zero) h = sym (xor_self (suc v))
term_turns v (suc (suc d)) h = absurd (omega arith)

class_lt : (dead : List ℕ) (m v a : ℕ) → v < 2 ^ m → class_by dead v a < 2 ^ m
class_lt dead m zero a h = rw (class_none dead a) h
class_lt dead m (suc v) a h =
    rw (class_more dead v a)
    (xor_lt m (class_by dead v a) (term v (bit (node dead (batch dead * v)) a)) (class_lt dead m v a (omega arith))
    (omega (arith, term_le v (bit (node dead (batch dead * v)) a))))

pub class_le : (dead : List ℕ) (a : ℕ) → class_of dead a ≤ top dead
class_le dead a =
    let z = sized dead in
    rw (class_by_lem dead a) (omega (arith, class_lt dead z.power (top dead) a (omega (arith, z.above)), z.above))

-- a node by which no class goes
class_keeps : (dead : List ℕ) (i v a : ℕ) → ((w : ℕ) → w < v → i ≢ node dead (batch dead * w)) → class_by dead v (flip i a) ≡ class_by dead v a
class_keeps dead i zero a h = class_none dead (flip i a) ∙ sym (class_none dead a)
class_keeps dead i (suc v) a h =
    class_more dead v (flip i a)
    ∙ ap₂ (λ x y. bit_xor x (term v y)) (class_keeps dead i v a (λ w l. h w (omega arith)))
    (flip_other i (node dead (batch dead * v)) a (λ e. h v (omega arith) (sym e)))
    ∙ sym (class_more dead v a)

class_kept : (dead : List ℕ) (i a : ℕ) → ((w : ℕ) → w < top dead → i ≢ node dead (batch dead * w)) → class_of dead (flip i a) ≡ class_of dead a
class_kept dead i a h = rw (class_by_lem dead (flip i a), class_by_lem dead a) (class_keeps dead i (top dead) a h)

module _ {s : Shape} {dead : List ℕ} (D : Dead s dead) where
  firsts_own : (v w : ℕ) → v < top dead → w < top dead → v ≢ w → node dead (batch dead * v) ≢ node dead (batch dead * w)
  firsts_own v w hv hw d =
      node_own D (batch dead * v) (batch dead * w) (first_lt dead v hv) (first_lt dead w hw)
      (λ e. d (eq_of_mul-eq-mul_left (batch dead) (batch_pos dead) v w e))

  class_turn : (v w a : ℕ) → w < v → v ≤ top dead → class_by dead v (flip (node dead (batch dead * w)) a) ≡ bit_xor (class_by dead v a) (suc w)
  class_turn zero w a h l = absurd (not-suc-le-zero h)
  class_turn (suc v) w a h l = go (class_turn v w a) (ℕ_discrete w v)
    where
      i : ℕ
      i = node dead (batch dead * v)

      j : ℕ
      j = node dead (batch dead * w)

      go : (w < v → v ≤ top dead → class_by dead v (flip j a) ≡ bit_xor (class_by dead v a) (suc w)) → Dec (w ≡ v)
          → class_by dead (suc v) (flip j a) ≡ bit_xor (class_by dead (suc v) a) (suc w)
      go ih (yes e) =
          rw e
          (class_more dead v (flip i a)
          ∙ ap₂ bit_xor (class_keeps dead i v a (λ x z. firsts_own v x (omega arith) (omega arith) (omega arith)))
          (ap (term v) (flip_bit i a) ∙ term_turns v (bit i a) (bit_lt i a))
          ∙ sym (xor_assoc (class_by dead v a) (term v (bit i a)) (suc v))
          ∙ ap (λ x. bit_xor x (suc v)) (sym (class_more dead v a)))
      go ih (no e) =
          class_more dead v (flip j a)
          ∙ ap₂ (λ x y. bit_xor x (term v y)) (ih (omega (arith, e)) (omega arith))
          (flip_other j i a (firsts_own v w (omega arith) (omega arith) (λ z. e (sym z))))
          ∙ xor_right (class_by dead v a) (suc w) (term v (bit i a))
          ∙ ap (λ x. bit_xor x (suc w)) (sym (class_more dead v a))

  -- the first node of a batch moves class c to c xor v + 1
  pub class_turns : (v a : ℕ) → v < top dead → class_of dead (flip (node dead (batch dead * v)) a) ≡ bit_xor (class_of dead a) (v + 1)
  class_turns v a h =
      rw (class_by_lem dead (flip (node dead (batch dead * v)) a), class_by_lem dead a, add-one v) (class_turn (top dead) v a h (omega arith))

  -- the turning rank of class c moves 0 to c and c to 0
  pub class_turned : (c a : ℕ) → 1 ≤ c → c ≤ top dead → class_of dead (flip (node dead (turning_rank dead c)) a) ≡ bit_xor (class_of dead a) c
  unfolding turning_rank
  class_turned c a p h = class_turns (c - 1) a (omega arith) ∙ ap (bit_xor (class_of dead a)) (let d : c - 1 + 1 ≡ c = omega arith in d)

  -- the node of any other rank keeps the class
  rank_keeps : (u a : ℕ) → u < length dead → (u % batch dead ≢ 0) ⊎ (u / batch dead ≡ top dead) → class_of dead (flip (node dead u) a) ≡ class_of dead a
  rank_keeps u a h c = class_kept dead (node dead u) a (λ w l. node_own D u (batch dead * w) h (first_lt dead w l) (go c w l))
    where
      go : (u % batch dead ≢ 0) ⊎ (u / batch dead ≡ top dead) → (w : ℕ) → w < top dead → u ≢ batch dead * w
      go (inl d) w l e = d (rw e (mul-mod_right (batch dead) w))
      go (inr d) w l e = omega (arith, sym d ∙ ap (λ x. x / batch dead) e ∙ mul-div_right w (batch_pos dead))

  pub partner_keeps : (u a : ℕ) → u < length dead → partner dead u ≢ 0 → class_of dead (flip (node dead u) a) ≡ class_of dead a
  unfolding partner
  partner_keeps u a h d = rank_keeps u a h (go (native.Mathlib.Decide.dec_lt (u / batch dead) (top dead)))
    where
      go : Dec (u / batch dead < top dead) → (u % batch dead ≢ 0) ⊎ (u / batch dead ≡ top dead)
      go (yes l) = inl (λ z. d (rw (lt-ltb (u / batch dead) (top dead) l) z))
      go (no l) = inr (let p = (parts dead u h).first in omega arith)
