-- A test of each number below a bound.
use mathlib.Core.Path.{◌≡◌, sym, subst, ◌∙◌}
use mathlib.Core.Bool.{Bool, true}
use Prim.Native.Nat.{ℕ, ◌<◌}
use native.Mathlib.Omega.{arith}
use Rattle.lists.specs.Lists.{range, all}
use Rattle.lists.proofs.Tests.{all_at, at_all}
use Rattle.lists.proofs.Tables.{range_length, range_at}

module _ (p : ℕ → Bool) (n : ℕ) where
  pub every : all p (range 0 n) ≡ true → (x : ℕ) → x < n → p x ≡ true
  every e x h = subst (λ z. p z ≡ true) (range_at 0 n x h ∙ omega arith) (all_at p (range 0 n) e x (omega (arith, range_length 0 n)))

  pub each : ((x : ℕ) → x < n → p x ≡ true) → all p (range 0 n) ≡ true
  each h = at_all p (range 0 n) (λ x l. let k : x < n = omega (arith, range_length 0 n) in subst (λ z. p z ≡ true) (sym (range_at 0 n x k ∙ omega arith)) (h x k))
