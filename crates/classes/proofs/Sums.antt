-- Which sum of a message has a given batch and a, and which batch and a a sum has.
use mathlib.Core.Path.{◌≡◌, refl, ap, ◌∙◌}
use mathlib.Core.List.{List}
use Prim.Native.Nat.{ℕ, zero, suc, ◌+◌, ◌*◌, ◌/◌, ◌%◌, ◌^◌, ◌<◌}
use native.Mathlib.Nat.{div-add-mod', mod-lt, div-lt_iff_lt-mul, mul-zero}
use native.Mathlib.Omega.{arith}
use borrow.Author.Tests.{eqb-true, eq-eqb}
use lib.Arith.{digits_lt}
use lib.ListN.{length, get_or}
use Rattle.lists.proofs.Tables.{map_at}
use Rattle.lists.proofs.Flats.{flat_at}
use Rattle.lists.proofs.Picked.{picked_lt, picked_at, picked_found}
use Rattle.shape.specs.declared.Shape.{Shape}
use Rattle.classes.specs.Classes.{batch, class_of, rank_class, Sum, Spot, spot, in_class, members, spots_of, spots, sum_at, message_size}
use Rattle.classes.proofs.Dead.{Dead}
use Rattle.classes.proofs.Ranks.{rank_class_le}
use Rattle.classes.proofs.Counts.{spots_of_length, message_is}

module _ (dead : List ℕ) (c : ℕ) where
  pub member_lt : (n a : ℕ) → a < n → class_of dead a ≡ c → length (members dead c a) < length (members dead c n)
  unfolding members in_class
  member_lt n a h e = picked_lt (in_class dead c) n a h (eq-eqb (class_of dead a) c e)

  pub member_at : (n a d : ℕ) → a < n → class_of dead a ≡ c → get_or (members dead c n) (length (members dead c a)) d ≡ a
  unfolding members in_class
  member_at n a d h e = picked_at (in_class dead c) n a d h (eq-eqb (class_of dead a) c e)

  -- what stands at place r of a class
  pub record Member (n r : ℕ) : Type 0 where
    pub a : ℕ
    pub below : a < n
    pub inside : class_of dead a ≡ c
    pub place : length (members dead c a) ≡ r

  pub member_found : (n r : ℕ) → r < length (members dead c n) → Member n r
  unfolding members in_class
  member_found n r h =
      let f = picked_found (in_class dead c) n r h in
      record { a = f.number; below = f.below; inside = eqb-true (class_of dead f.number) c f.passes; place = f.place }

-- the members of a rank's class, and how many
abbrev pub own : Shape → List ℕ → ℕ → ℕ → ℕ
own s dead u below = length (members dead (rank_class dead u) below)

pub sum_at_is : (s : Shape) (dead : List ℕ) (u b a : ℕ) → sum_at s dead u b a ≡ b * own s dead u (2 ^ s.n) + own s dead u a
unfolding sum_at
sum_at_is s dead u b a = refl

module _ (s : Shape) (dead : List ℕ) (u : ℕ) where
  module _ (b a : ℕ) (h : Sum s dead u b a) where
    own_lt : own s dead u a < own s dead u (2 ^ s.n)
    own_lt = member_lt dead (rank_class dead u) (2 ^ s.n) a h.below h.inside

    pub spots_at : (d : Spot) → get_or (spots s dead u) (sum_at s dead u b a) d ≡ spot s dead u b a
    unfolding spots spots_of
    spots_at d =
        let ms = members dead (rank_class dead u) (2 ^ s.n) in
        ap (λ x. get_or (spots s dead u) x d) (sum_at_is s dead u b a)
        ∙ flat_at (length ms) (spots_of s dead u) (s.layers / batch dead) (λ i _. spots_of_length s dead u i) b (own s dead u a) d h.batched own_lt
        ∙ map_at (spot s dead u b) ms (own s dead u a) 0 d own_lt
        ∙ ap (spot s dead u b) (member_at dead (rank_class dead u) (2 ^ s.n) a 0 h.below h.inside)

  -- the sum that stands at x
  pub record At (x : ℕ) : Type 0 where
    pub b : ℕ
    pub a : ℕ
    pub sum : Sum s dead u b a
    pub place : sum_at s dead u b a ≡ x

module _ {s : Shape} {dead : List ℕ} (D : Dead s dead) (u : ℕ) where
  pub sum_at_lt : (b a : ℕ) → Sum s dead u b a → sum_at s dead u b a < message_size s dead
  sum_at_lt b a h =
      rw (sum_at_is s dead u b a, message_is D (rank_class dead u) (rank_class_le dead u))
      (digits_lt h.batched (own_lt s dead u b a h))

  pub sum_at_all : (x : ℕ) → x < message_size s dead → At s dead u x
  sum_at_all x h =
      let C = own s dead u (2 ^ s.n) in
      let l : x < s.layers / batch dead * C = rw (message_is D (rank_class dead u) (rank_class_le dead u)) at h in
      let p : 0 < C = pos (s.layers / batch dead) C l in
      let m = member_found dead (rank_class dead u) (2 ^ s.n) (x % C) (mod-lt x p) in
      record {
        b = x / C;
        a = m.a;
        sum = record { batched = (div-lt_iff_lt-mul p).1 l; below = m.below; inside = m.inside };
        place = sum_at_is s dead u (x / C) m.a ∙ ap (λ r. x / C * C + r) m.place ∙ div-add-mod' x C;
      }
    where
      pos : (k c : ℕ) → x < k * c → 0 < c
      pos k zero l = absurd (omega (arith, mul-zero k))
      pos k (suc c) l = omega arith
