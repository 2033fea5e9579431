-- A pointer that runs along a rising list while a number counts up: which numbers are listed.
use mathlib.Core.Path.{◌≡◌, refl, sym, ap, ◌∙◌}
use mathlib.Core.Logic.{◌≢◌, ◌⊎◌, inl, inr}
use mathlib.Core.Bool.{true, false, not}
use mathlib.Core.List.{List, [], ◌∷◌, map}
use Prim.Native.Nat.{ℕ, ◌+◌, ◌≤◌, ◌<◌}
use native.Mathlib.Decide.{ℕ_discrete}
use native.Mathlib.Omega.{arith}
use lib.ListN.{length, get_or}
use Rattle.lists.specs.Lists.{member, position, outside, rising}
use Rattle.lists.proofs.Tests.{below_or_not, true_or_false}
use Rattle.lists.proofs.Members.{rising_rises, rises_before, member_of, at_position}

-- the first j listed numbers are below i, the others are not
pub record Along (list : List ℕ) (i j : ℕ) : Type 0 where
  pub within : j ≤ length list
  pub passed : (l : ℕ) → l < j → get_or list l 0 < i
  pub ahead : (l : ℕ) → j ≤ l → l < length list → i ≤ get_or list l 0

pub along_none : (list : List ℕ) → Along list 0 0
along_none list = record { within = omega arith; passed = λ l h. absurd (omega arith); ahead = λ l h k. omega arith }

module _ (n : ℕ) (list : List ℕ) (up : rising 0 n list ≡ true) (i j : ℕ) (w : Along list i j) where
  -- listed numbers behind the pointer's are above it
  above : (l : ℕ) → j < l → l < length list → get_or list j 0 < get_or list l 0
  above l h k = rises_before 0 n list j l (rising_rises 0 n list up) h k

  pub along_hit : j < length list → get_or list j 0 ≡ i → Along list (i + 1) (j + 1)
  along_hit h e = record {
    within = omega arith;
    passed = λ l k. below l k (ℕ_discrete l j);
    ahead = λ l k m. omega (arith, above l (omega arith) m);
  }
    where
      below : (l : ℕ) → l < j + 1 → Dec (l ≡ j) → get_or list l 0 < i + 1
      below l k (yes z) = rw z (omega arith)
      below l k (no z) = omega (arith, w.passed l (omega arith))

  -- the number is not listed
  miss : (j < length list → get_or list j 0 ≢ i) → (l : ℕ) → l < length list → get_or list l 0 ≢ i
  miss d l h e = go (below_or_not l j) (ℕ_discrete l j)
    where
      go : (l < j) ⊎ (j ≤ l) → Dec (l ≡ j) → ⊥
      go (inl b) z = omega (arith, w.passed l b)
      go (inr b) (yes z) = d (omega arith) (ap (λ k. get_or list k 0) (sym z) ∙ e)
      go (inr b) (no z) = omega (arith, above l (omega arith) h, w.ahead j (omega arith) (omega arith))

  pub along_miss : (j < length list → get_or list j 0 ≢ i) → Along list (i + 1) j
  along_miss d = record {
    within = w.within;
    passed = λ l k. omega (arith, w.passed l k);
    ahead = λ l k m. let z = miss d l m in omega (arith, w.ahead l k m);
  }

  pub hit_outside : j < length list → get_or list j 0 ≡ i → outside list i ≡ false
  unfolding outside
  hit_outside h e = ap not (ap (λ x. member x list) (sym e) ∙ member_of list j h)

  pub miss_outside : (j < length list → get_or list j 0 ≢ i) → outside list i ≡ true
  unfolding outside
  miss_outside d = go (true_or_false (member i list))
    where
      go : (member i list ≡ true) ⊎ (member i list ≡ false) → not (member i list) ≡ true
      go (inl e) = let p = at_position list i e in absurd (miss d (position i list) p.0 p.1)
      go (inr e) = ap not e

-- a list is its own image
pub map_self : (xs : List ℕ) → map (λ x. x) xs ≡ xs
map_self [] = refl
map_self (x ∷ xs) = ap (λ t. x ∷ t) (map_self xs)
