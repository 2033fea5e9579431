-- What the parts of `solve` give together: the solution.
use mathlib.Core.Path.{◌≡◌, refl, sym, ap, ap₂, ◌∙◌}
use mathlib.Core.List.{List}
use Prim.Native.Nat.{ℕ, zero, suc, ◌+◌, ◌-◌, ◌*◌, ◌%◌, ◌^◌, ◌≤◌, ◌<◌}
use native.Mathlib.Nat.{mod-lt, mod-eq_of_lt, pow-zero, pow-succ'}
use native.Mathlib.Omega.{arith}
use lib.ListN.{length, take, length-take}
use lib.Seq.{get_or-take}
use Rattle.lists.specs.Lists.{element}
use Rattle.lists.specs.Sums.{sum}
use Rattle.lists.proofs.Sums.{sum_ext}
use Rattle.field.specs.Residues.{Prime, minus, solution}
use Rattle.field.proofs.Fields.{pos}
use Rattle.field.proofs.Bridge.{r as residue}
use Rattle.inverting.proofs.Inverses.{pivots_ext}
use Rattle.column.specs.Column.{Points}
use Rattle.column.specs.Solving.{most_entries, cell, power_of, less, eliminated, differences, pivot_at, pivot, term, Vandermonde, Meets, Substituted}
use Rattle.column.proofs.Elimination.{eliminated_ext, differences_ext}
use Rattle.column.proofs.Solved.{corner_product, triangle_solved}
use Rattle.column.proofs.Solvable.{differences_small, pivots_good}
use Rattle.column.proofs.Substitution.{res_of_mod}

first_power : (x : ℕ) → x ^ 1 ≡ x
first_power x = pow-succ' x 0 ∙ ap (λ n. x * n) (pow-zero x) ∙ omega arith

corner_small : (q x i : ℕ) (points : ℕ → ℕ) → 0 < q → eliminated q points i (power_of q x) 0 < q
unfolding eliminated less minus
corner_small q x zero points h = mod-lt _ h
corner_small q x (suc i) points h = mod-lt _ h

module _ (q : ℕ) (prime : Prime q) (xs : List ℕ) (apart : Points q xs) (r : ℕ) (long : length xs ≡ r) (few : r ≤ most_entries)
    (powers : List (List ℕ)) (v : Vandermonde q xs powers) (right points side : List ℕ) (triangle : List (List ℕ))
    (points_are : (j : ℕ) → j < r → element points j ≡ cell powers j 1)
    (triangle_is : (i j : ℕ) → i < r → j < r → cell triangle i j ≡ differences q (element points) i (element points j))
    (side_is : (i : ℕ) → i < r → element side i ≡ eliminated q (element points) i (element right) 0)
    (values : List ℕ) (w : Substituted q r triangle side values) where
  -- the first powers are the points, where there is more than one
  point_of_lem : 1 < r → (l : ℕ) → l < r → element points l ≡ element xs l
  point_of_lem more l k =
      points_are l k ∙ v.power l 1 (omega arith) (omega arith) ∙ ap (λ x. x % q) (first_power (element xs l))
      ∙ mod-eq_of_lt (apart.below l (omega arith))

  point_is : (i : ℕ) → i < r → (l : ℕ) → l < i → element points l ≡ element xs l
  point_is i h l k = point_of_lem (omega arith) l (omega arith)

  left_is : (i j : ℕ) → i < r → j < r → cell triangle i j ≡ differences q (element xs) i (element xs j)
  left_is i j k h = triangle_is i j k h ∙ same i k
    where
      same : (i : ℕ) → i < r → differences q (element points) i (element points j) ≡ differences q (element xs) i (element xs j)
      same zero l = unfold differences in refl
      same (suc m) l =
          ap (differences q (element points) (suc m)) (point_of_lem (omega arith) j h)
          ∙ differences_ext q (element points) (element xs) (suc m) (element xs j) (point_is (suc m) l)

  corner_is : (i j : ℕ) → i < r → j < r → cell triangle i j ≡ eliminated q (element xs) i (power_of q (element xs j)) 0
  corner_is i j k h =
      left_is i j k h
      ∙ corner_product q prime xs apart i (element xs j) (corner_small q (element xs j) i (element xs) (pos q prime)) (differences_small q (element xs j) i (element xs) prime.big)

  right_is : (i : ℕ) → i < r → element side i ≡ eliminated q (element xs) i (element right) 0
  right_is i h = side_is i h ∙ eliminated_ext q (element points) (element xs) (element right) (element right) i 0 (point_is i h) (λ t l. refl)

  meets : (i : ℕ) → i < r → Meets q r triangle side values i
  meets = w.meets (pivots_ext q r (pivot_at q xs) (pivot triangle) (λ i h. left_is i i h h) (rw long at (pivots_good q prime xs apart)))

  taken : (j : ℕ) → j < r → element (take r values) j ≡ element values j
  taken j h = get_or-take r values j 0 h

  size : length (take r values) ≡ r
  size = simp length-take (omega (arith, w.long))

  pub solved_by : take r values ≡ solution q xs (element right)
  unfolding term
  solved_by =
      triangle_solved q prime xs apart (element right) (take r values) (size ∙ sym long)
      (λ j h. let k : j < r = omega (arith, size) in rw (taken j k) (meets j k).small)
      (λ i h. let k : i < r = omega arith in
      ap (residue q prime)
      (ap (λ n. sum n (λ d. eliminated q (element xs) i (power_of q (element xs (i + d))) 0 * element (take r values) (i + d))) (ap (λ n. n - i) long)
      ∙ sum_ext (r - i) _ _ (λ d l. ap₂ ◌*◌ (sym (corner_is i (i + d) k (omega arith))) (taken (i + d) (omega arith))))
      ∙ res_of_mod q prime _ _ (meets i k).met
      ∙ ap (residue q prime) (right_is i k))
