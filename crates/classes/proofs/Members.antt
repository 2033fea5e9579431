-- The members of a class by their numbers: one a more, and the sum of each.
use mathlib.Core.Path.{◌≡◌, refl, sym, ap, ◌∙◌}
use mathlib.Core.Bool.{Bool, true, false, cond}
use mathlib.Core.List.{List, [], ◌∷◌, ◌++◌}
use Prim.Native.Nat.{ℕ, zero, suc, ◌+◌, ◌*◌, ◌/◌, ◌^◌, ◌≤◌, ◌<◌}
use native.Mathlib.Nat.{div-eq_of_eq-mul_left}
use native.Mathlib.Numerals.{add-one}
use native.Mathlib.Omega.{arith}
use lib.ListN.{length, get_or, set, take, length-append, length-set}
use lib.Seq.{take-suc-set, take-set-le, get_or-take}
use Rattle.lists.specs.Lists.{range}
use Rattle.lists.proofs.Tables.{range_length, range_at, range_more}
use Rattle.lists.proofs.Picked.{picked_none, picked_yes, picked_no}
use Rattle.shape.specs.declared.Shape.{Shape}
use Rattle.classes.specs.Classes.{batch, top, class_by, class_of, rank_class, Sum, spot, spot_at, in_class, members, sum_at}
use Rattle.classes.specs.declared.Layout.{Layout}
use Rattle.classes.specs.Layout.{Ready, Fronted}
use Rattle.classes.proofs.Dead.{Dead}
use Rattle.classes.proofs.Counts.{members_size}
use Rattle.classes.proofs.Layouts.{ready_dead}
use Rattle.classes.proofs.Sums.{member_found, member_at, sum_at_is}
use Rattle.classes.proofs.Messages.{spot_number}

module _ (dead : List ℕ) (c : ℕ) where
  pub members_none : length (members dead c 0) ≡ 0
  unfolding members
  members_none = ap length (picked_none (in_class dead c))

  members_yes : (a : ℕ) → in_class dead c a ≡ true → members dead c (suc a) ≡ members dead c a ++ a ∷ []
  unfolding members
  members_yes a e = picked_yes (in_class dead c) a e

  members_no : (a : ℕ) → in_class dead c a ≡ false → members dead c (suc a) ≡ members dead c a
  unfolding members
  members_no a e = picked_no (in_class dead c) a e

  -- no more than there are numbers
  pub members_few : (a : ℕ) → length (members dead c a) ≤ a
  members_few zero = omega (arith, members_none)
  members_few (suc a) = go (members_few a) (in_class dead c a) refl
    where
      go : length (members dead c a) ≤ a → (t : Bool) → in_class dead c a ≡ t → length (members dead c (suc a)) ≤ suc a
      go ih true e = omega (arith, ap length (members_yes a e) ∙ length-append (members dead c a) (a ∷ []))
      go ih false e = omega (arith, ap length (members_no a e))

  -- a table whose first x elements are the members below a
  pub record Listing (room a x : ℕ) (out : List ℕ) : Type 0 where
    pub long : length out ≡ room
    pub count : x ≡ length (members dead c a)
    pub front : take x out ≡ members dead c a

  pub listing_none : (out : List ℕ) → Listing (length out) 0 0 out
  unfolding members
  listing_none out = record { long = refl; count = sym members_none; front = sym (picked_none (in_class dead c)) }

  -- a is written behind them, and counted where it is of the class
  pub listing_more : (room a x y : ℕ) (out : List ℕ) → Listing room a x out → x < length out → y ≡ cond (in_class dead c a) 1 0 → Listing room (a + 1) (x + y) (set out x a)
  listing_more room a x y out L h e = rw add-one (go (in_class dead c a) refl)
    where
      go : (t : Bool) → in_class dead c a ≡ t → Listing room (suc a) (x + y) (set out x a)
      go true d =
          let z : x + y ≡ suc x = omega (arith, e ∙ ap (λ (t : Bool). cond t 1 0) d) in
          record {
            long = length-set out x a ∙ L.long;
            count = omega (arith, L.count, ap length (members_yes a d) ∙ length-append (members dead c a) (a ∷ []), z);
            front = rw z (take-suc-set out x a h ∙ ap (λ l. l ++ a ∷ []) L.front ∙ sym (members_yes a d));
          }
      go false d =
          let z : x + y ≡ x = omega (arith, e ∙ ap (λ (t : Bool). cond t 1 0) d) in
          record {
            long = length-set out x a ∙ L.long;
            count = omega (arith, L.count, ap length (members_no a d), z);
            front = rw z (take-set-le x out x a (omega arith) ∙ L.front ∙ sym (members_no a d));
          }

  pub listing_end : (room n x : ℕ) (out : List ℕ) → Listing room (2 ^ n) x out → Fronted dead c n out
  listing_end room n x out L = record {
    each = λ y h. sym (get_or-take x out y 0 (omega (arith, L.count))) ∙ ap (λ l. get_or l y 0) L.front;
  }

  -- which number has member x
  pub member_is : (n x : ℕ) → x < length (members dead c n)
      → (get_or (members dead c n) x 0 < n) × (class_of dead (get_or (members dead c n) x 0) ≡ c) × (length (members dead c (get_or (members dead c n) x 0)) ≡ x)
  member_is n x h =
      let m = member_found dead c n x h in
      let e : get_or (members dead c n) x 0 ≡ m.a = ap (λ y. get_or (members dead c n) y 0) (sym m.place) ∙ member_at dead c n m.a 0 m.below m.inside in
      rw e (m.below, m.inside, m.place)

-- all classes have as many members
pub class_size : {s : Shape} {dead : List ℕ} → Dead s dead → (c : ℕ) → c ≤ top dead → 2 ^ s.n / (top dead + 1) ≡ length (members dead c (2 ^ s.n))
class_size {s} {dead} D c h = div-eq_of_eq-mul_left (omega arith) (sym (members_size D c h))

-- and a layout has that number
pub class_members : {dead : List ℕ} {g : Layout} → Ready dead g → (c : ℕ) → c ≤ top dead → g.members ≡ length (members dead c (2 ^ g.shape.n))
class_members R c h = R.members_is ∙ class_size (ready_dead R) c h

-- sum x of batch b of rank u is at the x-th a of its class
module _ (s : Shape) (dead : List ℕ) (u b x : ℕ) (h : b < s.layers / batch dead) (l : x < length (members dead (rank_class dead u) (2 ^ s.n))) where
  abbrev a : ℕ
  a = get_or (members dead (rank_class dead u) (2 ^ s.n)) x 0

  pub member_sum : Sum s dead u b (get_or (members dead (rank_class dead u) (2 ^ s.n)) x 0)
  member_sum = let m = member_is dead (rank_class dead u) (2 ^ s.n) x l in record { batched = h; below = m.0; inside = m.1 }

  pub member_number : sum_at s dead u b (get_or (members dead (rank_class dead u) (2 ^ s.n)) x 0) ≡ b * length (members dead (rank_class dead u) (2 ^ s.n)) + x
  member_number = sum_at_is s dead u b a ∙ ap (λ y. b * length (members dead (rank_class dead u) (2 ^ s.n)) + y) (member_is dead (rank_class dead u) (2 ^ s.n) x l).2

  pub member_spot : spot_at s dead u (b * length (members dead (rank_class dead u) (2 ^ s.n)) + x) ≡ spot s dead u b (get_or (members dead (rank_class dead u) (2 ^ s.n)) x 0)
  member_spot = spot_number s dead u b a _ member_sum member_number

-- Where there is one class, it has every a.
module _ (dead : List ℕ) (one : top dead ≡ 0) where
  in_one : (a : ℕ) → in_class dead 0 a ≡ true
  unfolding in_class class_of class_by
  in_one a = rw one

  pub one_class : (n : ℕ) → members dead 0 n ≡ range 0 n
  unfolding members range
  one_class zero = picked_none (in_class dead 0)
  one_class (suc a) = members_yes dead 0 a (in_one a) ∙ ap (λ l. l ++ a ∷ []) (one_class a) ∙ ap (λ z. range 0 a ++ z ∷ []) (let e : a ≡ 0 + a = omega arith in e) ∙ sym (range_more 0 a)

  pub all_listed : (n : ℕ) (out : List ℕ) → ((x : ℕ) → x < 2 ^ n → get_or out x 0 ≡ x) → Fronted dead 0 n out
  all_listed n out h = record {
    each = λ x l.
        let k : x < 2 ^ n = omega (arith, ap length (one_class (2 ^ n)), range_length 0 (2 ^ n)) in
        let e : x ≡ 0 + x = omega arith in
        h x k ∙ e ∙ sym (range_at 0 (2 ^ n) x k) ∙ ap (λ z. get_or z x 0) (sym (one_class (2 ^ n)));
  }
