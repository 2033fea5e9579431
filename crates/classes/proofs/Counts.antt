-- Each class has 2^n / (H + 1) members, and each message N / (h + 1) sums.
use mathlib.Core.Path.{◌≡◌, refl, sym, ap, ◌∙◌}
use mathlib.Core.Bool.{Bool, cond}
use mathlib.Core.List.{List}
use Prim.Native.Nat.{ℕ, zero, suc, ◌+◌, ◌*◌, ◌/◌, ◌^◌, ◌≤◌, ◌<◌}
use native.Mathlib.Decide.{ℕ_discrete}
use native.Mathlib.Nat.{div-add-mod', div-eq_of_eq-mul_left, mul-one, mul_comm}
use native.Mathlib.Numerals.{add-one}
use native.Mathlib.Omega.{arith}
use borrow.Author.Tests.{eq-eqb, ne_eqb}
use lib.Bits.{bit_xor, xor_self}
use lib.Dec.{eqb}
use lib.ListN.{length, length-map}
use Rattle.lists.specs.Sums.{sum}
use Rattle.lists.specs.Digits.{flip}
use Rattle.lists.proofs.Flats.{flat_length}
use Rattle.lists.proofs.Picked.{picked_count}
use Rattle.lists.proofs.Sums.{sum_ext, sum_const, sum_swap, sum_tests, sum_flip}
use Rattle.lists.proofs.Xors.{xor_back}
use Rattle.shape.specs.declared.Shape.{Shape}
use Rattle.shape.specs.Shape.{size}
use Rattle.classes.specs.Classes.{batch, top, node, class_of, rank_class, spot, in_class, members, spots_of, spots, message_size}
use Rattle.classes.proofs.Sizes.{batch_whole, first_lt}
use Rattle.classes.proofs.Dead.{Dead, node_below}
use Rattle.classes.proofs.Turns.{class_le, class_turns}
use Rattle.classes.proofs.Ranks.{rank_class_le}

eqb_iff : (x y z w : ℕ) → (x ≡ y → z ≡ w) → (z ≡ w → x ≡ y) → eqb x y ≡ eqb z w
eqb_iff x y z w f g = go (ℕ_discrete x y)
  where
    go : Dec (x ≡ y) → eqb x y ≡ eqb z w
    go (yes e) = eq-eqb x y e ∙ sym (eq-eqb z w (f e))
    go (no d) = ne_eqb x y d ∙ sym (ne_eqb z w (λ e. d (g e)))

-- how many a below 2^n have class c
count : ℕ → List ℕ → ℕ → ℕ
count n dead c = sum (2 ^ n) (λ a. cond (in_class dead c a) 1 0)

module _ {s : Shape} {dead : List ℕ} (D : Dead s dead) where
  abbrev n : ℕ
  n = s.n

  -- a flip moves class c to class 0
  moves : (c a : ℕ) → c < top dead → in_class dead (suc c) (flip (node dead (batch dead * c)) a) ≡ in_class dead 0 a
  unfolding in_class
  moves c a h =
      rw (class_turns D c a h, add-one c)
      (eqb_iff (bit_xor (class_of dead a) (suc c)) (suc c) (class_of dead a) 0
      (λ e. sym (xor_back (class_of dead a) (suc c)) ∙ ap (λ x. bit_xor x (suc c)) e ∙ xor_self (suc c))
      (λ e. rw e))

  counts_same : (c : ℕ) → c ≤ top dead → count n dead c ≡ count n dead 0
  unfolding count in_class
  counts_same zero h = refl
  counts_same (suc c) h =
      sym (sum_flip n (node dead (batch dead * c)) (λ a. cond (in_class dead (suc c) a) 1 0) (node_below D (batch dead * c) (first_lt dead c h)))
      ∙ sum_ext (2 ^ n) (λ a. cond (in_class dead (suc c) (flip (node dead (batch dead * c)) a)) 1 0) (λ a. cond (in_class dead 0 a) 1 0)
      (λ a l. ap (λ (t : Bool). cond t 1 0) (moves c a h))

  count_all : sum (top dead + 1) (count n dead) ≡ 2 ^ n
  unfolding count in_class
  count_all =
      sum_swap (top dead + 1) (2 ^ n) (λ c a. cond (in_class dead c a) 1 0)
      ∙ sum_ext (2 ^ n) (λ a. sum (top dead + 1) (λ c. cond (in_class dead c a) 1 0)) (λ a. 1)
      (λ a l. sum_tests (top dead + 1) (class_of dead a) (omega (arith, class_le dead a)))
      ∙ sum_const (2 ^ n) 1 ∙ mul-one (2 ^ n)

  count_each : (c : ℕ) → c ≤ top dead → count n dead c * (top dead + 1) ≡ 2 ^ n
  count_each c h =
      ap (λ x. x * (top dead + 1)) (counts_same c h) ∙ mul_comm (count n dead 0) (top dead + 1)
      ∙ sym (sum_const (top dead + 1) (count n dead 0))
      ∙ sum_ext (top dead + 1) (λ c. count n dead 0) (count n dead) (λ i l. sym (counts_same i (omega arith)))
      ∙ count_all

weigh : (L N h l b m t : ℕ) → L ≡ l * b → N ≡ m * t → h ≡ b * t → L * N ≡ l * m * h
weigh L N h l b m t e d f = rw (e, d, f) (omega arith)

module _ {s : Shape} {dead : List ℕ} (D : Dead s dead) where
  pub members_size : (c : ℕ) → c ≤ top dead → length (members dead c (2 ^ s.n)) * (top dead + 1) ≡ 2 ^ s.n
  unfolding count members
  members_size c h = ap (λ x. x * (top dead + 1)) (picked_count (in_class dead c) (2 ^ s.n)) ∙ count_each D c h

  size_is : (c : ℕ) → c ≤ top dead → size s ≡ s.layers / batch dead * length (members dead c (2 ^ s.n)) * (length dead + 1)
  unfolding size
  size_is c h =
      weigh s.layers (2 ^ s.n) (length dead + 1) (s.layers / batch dead) (batch dead) (length (members dead c (2 ^ s.n))) (top dead + 1)
      (omega (arith, div-add-mod' s.layers (batch dead), D.whole)) (sym (members_size c h)) (batch_whole dead)

  pub message_is : (c : ℕ) → c ≤ top dead → message_size s dead ≡ s.layers / batch dead * length (members dead c (2 ^ s.n))
  unfolding message_size
  message_is c h = div-eq_of_eq-mul_left (omega arith) (size_is c h)

  -- a message is a node's share of N / (h + 1) symbols
  pub message_whole : message_size s dead * (length dead + 1) ≡ size s
  message_whole = ap (λ x. x * (length dead + 1)) (message_is 0 (omega arith)) ∙ sym (size_is 0 (omega arith))

pub spots_of_length : (s : Shape) (dead : List ℕ) (u b : ℕ) → length (spots_of s dead u b) ≡ length (members dead (rank_class dead u) (2 ^ s.n))
unfolding spots_of
spots_of_length s dead u b = length-map (members dead (rank_class dead u) (2 ^ s.n)) (spot s dead u b)

spots_length : (s : Shape) (dead : List ℕ) (u : ℕ) → length (spots s dead u) ≡ s.layers / batch dead * length (members dead (rank_class dead u) (2 ^ s.n))
unfolding spots
spots_length s dead u = flat_length (length (members dead (rank_class dead u) (2 ^ s.n))) (spots_of s dead u) (s.layers / batch dead) (λ b _. spots_of_length s dead u b)

-- a message has a symbol for each of its sums
pub spots_size : {s : Shape} {dead : List ℕ} → Dead s dead → (u : ℕ) → length (spots s dead u) ≡ message_size s dead
spots_size {s} {dead} D u = spots_length s dead u ∙ sym (message_is D (rank_class dead u) (rank_class_le dead u))
