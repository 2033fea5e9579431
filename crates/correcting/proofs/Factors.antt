-- The factors of a change: 1 in the byte's own node, 0 in the other data nodes, never 0 in a check node; what a change of one data symbol makes of
-- a column.
use mathlib.Core.Path.{◌≡◌, sym, ap, ◌∙◌}
use mathlib.Core.Logic.{◌≢◌}
use mathlib.Core.Bool.{true}
use mathlib.Core.List.{List}
use Prim.Native.Nat.{ℕ, ◌+◌, ◌*◌, ◌%◌, ◌^◌, ◌≤◌, ◌<◌}
use native.Mathlib.Nat.{mod-lt, mod-add-mod, mul-le-mul}
use native.Mathlib.Omega.{arith}
use lib.ListN.{length, get_or}
use Rattle.lists.specs.Lists.{range, position, rising}
use Rattle.lists.specs.Sums.{sum}
use Rattle.lists.proofs.Tables.{range_length, range_own}
use Rattle.lists.proofs.Members.{range_member, range_lacks, range_rising, rising_position}
use Rattle.lists.proofs.Sums.{sum_ext, sum_add, sum_mod}
use Rattle.field.proofs.Residues.{mul_mod_mod}
use Rattle.field.proofs.Fields.{pos}
use Rattle.column.specs.Column.{completed}
use Rattle.shape.specs.declared.Shape.{Shape}
use Rattle.code.specs.Code.{Code, GoodCode, points}
use Rattle.code.specs.Archive.{place_points}
use Rattle.code.proofs.NodePoints.{points_length, points_good}
use Rattle.multipliers.specs.Multipliers.{unit}
use Rattle.multipliers.proofs.Units.{unit_same, unit_other, unit_small, unit_picks}
use Rattle.multipliers.proofs.Multipliers.{multiplier_nonzero}
use Rattle.factors.specs.Factors.{factor}
use Rattle.factors.proofs.Factors.{factor_listed, factor_missing, factor_small, entry_sum}
use Rattle.correcting.specs.Correcting.{change_factor}

module _ (c : Code) (s : Shape) (good : GoodCode c s.n) (fits : s.k ≤ s.n) (node place : ℕ) where
  abbrev q : ℕ
  q = c.modulus

  abbrev list : List ℕ
  list = range 0 s.k

  abbrev a : ℕ
  a = place % 2 ^ s.n

  up : rising 0 s.n (range 0 s.k) ≡ true
  up = range_rising s.n s.k fits

  count : length (range 0 s.k) ≡ s.k
  count = range_length 0 s.k

  -- ---- the factors themselves

  factor_data : (i : ℕ) → i < s.k → change_factor c s node place i ≡ unit i node
  unfolding change_factor
  factor_data i h =
      factor_listed c s list good up count a i (omega arith) (range_member s.k i h) node
      ∙ ap (λ u. unit u node) (ap (λ u. position u list) (sym (range_own s.k i h)) ∙ rising_position s.n list up i (omega (arith, count)))

  pub factor_own : node < s.k → change_factor c s node place node ≡ 1
  factor_own h = factor_data node h ∙ unit_same node

  pub factor_other : (i : ℕ) → i < s.k → i ≢ node → change_factor c s node place i ≡ 0
  factor_other i h d = factor_data i h ∙ unit_other i node (λ e. d (sym e))

  pub factor_nonzero : node < s.k → (i : ℕ) → s.k ≤ i → i < s.n → change_factor c s node place i ≢ 0
  unfolding change_factor
  factor_nonzero h i l m e =
      multiplier_nonzero q good.prime (points c s.n a) (points_good c s.n good a) list (rw (points_length c s.n a) up) i (omega (arith, points_length c s.n a))
      (range_lacks s.k i l) node (omega (arith, count))
      (sym (factor_missing c s list good up count a i m (range_lacks s.k i l) node) ∙ e)

  pub factor_low : (i : ℕ) → i < s.n → change_factor c s node place i < c.modulus
  unfolding change_factor
  factor_low i m = factor_small c s list good up count a i m node

  -- ---- a column from the data nodes

  module _ (h : node < s.k) (i : ℕ) (within : i < s.n) where
    abbrev f : ℕ → ℕ
    f j = factor c s.n (range 0 s.k) (place % 2 ^ s.n) i j

    entry : (values : ℕ → ℕ) → ((j : ℕ) → j < s.k → values j < c.modulus)
        → get_or (completed q (place_points c s place) list values) i 0 ≡ sum (length list) (λ j. f j * values j) % q
    unfolding place_points
    entry values small = entry_sum c s list good up count a i within values (λ j l. small j (omega (arith, count)))

    picks : (d : ℕ) → sum (length list) (λ j. d * (f j * unit node j)) ≡ d * change_factor c s node place i
    unfolding change_factor
    picks d =
        sum_ext (length list) _ (λ j. d * f j * unit node j) (λ j _. let e : d * (f j * unit node j) ≡ d * f j * unit node j = omega arith in e)
        ∙ unit_picks (length list) node (λ j. d * f j) (omega (arith, count))

    -- where one data node has d, and the others 0
    pub entry_alone : (values : ℕ → ℕ) (d : ℕ) → d < c.modulus → ((j : ℕ) → j < s.k → values j ≡ d * unit node j)
        → get_or (completed q (place_points c s place) (range 0 s.k) values) i 0 ≡ (d * change_factor c s node place i) % q
    entry_alone values d low is =
        entry values (λ j l. rw (is j l) (omega (arith, mul-le-mul {n₁ = d} {m₁ = unit node j} {n₂ = d} {m₂ = 1} (omega arith) (omega (arith, unit_small 2 node j (omega arith))))))
        ∙ ap (λ u. u % q)
        (sum_ext (length list) _ (λ j. d * (f j * unit node j))
        (λ j l. ap (λ u. f j * u) (is j (omega (arith, count))) ∙ (let e : f j * (d * unit node j) ≡ d * (f j * unit node j) = omega arith in e))
        ∙ picks d)

    -- where one data node's symbol changes by d
    pub entry_moves : (values values' : ℕ → ℕ) (d : ℕ) → ((j : ℕ) → j < s.k → values j < c.modulus)
        → ((j : ℕ) → j < s.k → values' j ≡ (values j + d * unit node j) % c.modulus)
        → get_or (completed q (place_points c s place) (range 0 s.k) values') i 0
        ≡ (get_or (completed q (place_points c s place) (range 0 s.k) values) i 0 + d * change_factor c s node place i) % q
    entry_moves values values' d small is =
        entry values' (λ j l. rw (is j l) (mod-lt _ (pos q good.prime)))
        ∙ sum_mod q (length list) _ (λ j. f j * values j + d * (f j * unit node j))
        (λ j l. ap (λ u. (f j * u) % q) (is j (omega (arith, count))) ∙ mul_mod_mod (f j) (values j + d * unit node j) q
        ∙ ap (λ u. u % q) (let e : f j * (values j + d * unit node j) ≡ f j * values j + d * (f j * unit node j) = omega arith in e))
        ∙ ap (λ u. u % q) (sum_add (length list) (λ j. f j * values j) (λ j. d * (f j * unit node j)) ∙ ap (λ u. sum (length list) (λ j. f j * values j) + u) (picks d))
        ∙ sym (mod-add-mod (sum (length list) (λ j. f j * values j)) q (d * change_factor c s node place i))
        ∙ ap (λ u. (u + d * change_factor c s node place i) % q) (sym (entry values small))
