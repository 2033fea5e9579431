-- The values 1 at one entry and 0 elsewhere.
use mathlib.Core.Path.{◌≡◌, refl, ap, ◌∙◌}
use mathlib.Core.Logic.{◌≢◌}
use Prim.Native.Nat.{ℕ, ◌*◌, ◌<◌}
use native.Mathlib.Decide.{ℕ_discrete}
use native.Mathlib.Omega.{arith}
use Rattle.lists.specs.Sums.{sum}
use Rattle.lists.proofs.Tests.{cond_equal, cond_unequal}
use Rattle.lists.proofs.Sums.{sum_only}
use Rattle.multipliers.specs.Multipliers.{unit}

pub unit_same : (j : ℕ) → unit j j ≡ 1
unfolding unit
unit_same j = cond_equal 1 0 j j refl

pub unit_other : (j e : ℕ) → e ≢ j → unit j e ≡ 0
unfolding unit
unit_other j e d = cond_unequal 1 0 e j d

pub unit_small : (q j e : ℕ) → 1 < q → unit j e < q
unit_small q j e h = go (ℕ_discrete e j)
  where
    go : Dec (e ≡ j) → unit j e < q
    go (yes d) = rw (d, unit_same j) h
    go (no d) = rw (unit_other j e d) (omega arith)

-- a sum in which one term has the factor 1 and the others 0
pub unit_picks : (n j : ℕ) (f : ℕ → ℕ) → j < n → sum n (λ e. f e * unit j e) ≡ f j
unit_picks n j f h =
    sum_only n j _ h (λ e _ d. ap (λ u. f e * u) (unit_other j e d) ∙ omega arith) ∙ ap (λ u. f j * u) (unit_same j) ∙ omega arith
