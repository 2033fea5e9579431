-- Points at equal distances differ, and stay below a bound that the last of the most points stays below.
use mathlib.Core.Path.{◌≡◌, sym, ap, ◌∙◌}
use mathlib.Core.Logic.{◌⊎◌, inl, inr}
use mathlib.Core.List.{List}
use Prim.Native.Nat.{ℕ, ◌+◌, ◌*◌, ◌-◌, ◌≤◌, ◌<◌}
use native.Mathlib.Nat.{mul-le-mul_right}
use native.Mathlib.Omega.{arith}
use lib.ListN.{length, get_or}
use Rattle.lists.specs.Lists.{tabulate}
use Rattle.lists.proofs.Tests.{below_or_not}
use Rattle.lists.proofs.Tables.{tabulate_at}
use Rattle.column.specs.Column.{Points}
use Rattle.column.specs.Solving.{most_entries}
use Rattle.column_test.specs.Progression.{stepped}

module _ (base step : ℕ) (some : 0 < step) where
  rises : (i j : ℕ) → i < j → stepped base step i < stepped base step j
  unfolding stepped
  rises i j h = omega (arith, mul-le-mul_right step h)

  same : (i j : ℕ) → stepped base step i ≡ stepped base step j → i ≡ j
  same i j e = go (below_or_not i j) (below_or_not j i)
    where
      go : (i < j) ⊎ (j ≤ i) → (j < i) ⊎ (i ≤ j) → i ≡ j
      go (inl h) k = absurd (omega (arith, rises i j h))
      go (inr h) (inl k) = absurd (omega (arith, rises j i k))
      go (inr h) (inr k) = omega arith

  pub stepped_points : (q m : ℕ) → m ≤ most_entries → base + (most_entries - 1) * step < q → (points : List ℕ) → length points ≡ m → points ≡ tabulate m (stepped base step) → Points q points
  stepped_points q m h l points long e = record {
    below = λ i k. rw (at i (omega arith)) (low i (omega arith));
    apart = λ i j k n d. same i j (sym (at i (omega arith)) ∙ d ∙ at j (omega arith));
  }
    where
      at : (i : ℕ) → i < m → get_or points i 0 ≡ stepped base step i
      at i k = ap (λ p. get_or p i 0) e ∙ tabulate_at m (stepped base step) i 0 k

      low : (i : ℕ) → i < m → stepped base step i < q
      low i k = unfold stepped in omega (arith, mul-le-mul_right step (let b : i ≤ most_entries - 1 = omega arith in b))
