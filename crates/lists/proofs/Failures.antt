-- The first place of rows of one size that fails a test: the end exactly if none fails; otherwise it fails, and none before it does.
use mathlib.Core.Path.{◌≡◌, sym, ap, ap₂, ◌∙◌}
use mathlib.Core.Logic.{◌≢◌, ◌↔◌}
use mathlib.Core.Bool.{Bool, true, false, not}
use Prim.Native.Nat.{ℕ, ◌+◌, ◌*◌, ◌/◌, ◌%◌, ◌≤◌, ◌<◌}
use native.Mathlib.Omega.{arith}
use borrow.Author.Tests.{not-true, not-false}
use lib.Arith.{digits_lt, digits_div, digits_mod}
use Rattle.lists.specs.Lists.{first_from}
use Rattle.lists.proofs.Firsts.{First, first_is, first_none}
use Rattle.lists.proofs.Places.{Place, place_of}

module _ (ok : ℕ → ℕ → Bool) (rows size : ℕ) where
  -- place e fails, which is place e % size of row e / size
  abbrev pub fails : ℕ → Bool
  fails e = not (ok (e / size) (e % size))

  abbrev pub first_failure : ℕ
  first_failure = first_from fails 0 (rows * size)

  first : First fails 0 (rows * size) first_failure
  first = first_is fails 0 (rows * size)

  pub failure_upto : first_failure ≤ rows * size
  failure_upto = omega (arith, first.upto)

  pub failure_none_iff : (first_failure ≡ rows * size) ↔ ((i j : ℕ) → i < rows → j < size → ok i j ≡ true)
  failure_none_iff = (to, from)
    where
      to : first_failure ≡ rows * size → (i j : ℕ) → i < rows → j < size → ok i j ≡ true
      to e i j h l =
          sym (ap₂ ok (digits_div i l) (digits_mod i l)) ∙ not-false _ (first.before (i * size + j) (omega arith) (omega (arith, e, digits_lt h l)))

      from : ((i j : ℕ) → i < rows → j < size → ok i j ≡ true) → first_failure ≡ rows * size
      from h = first_none fails 0 (rows * size) (λ e _ l. each e (place_of rows size e (omega arith))) ∙ omega arith
        where
          each : (e : ℕ) → Place rows size e → fails e ≡ false
          each e p = ap not (h (e / size) (e % size) p.row p.place)

  pub failure_first : first_failure ≢ rows * size
      → (ok (first_failure / size) (first_failure % size) ≡ false) × ((e : ℕ) → e < first_failure → ok (e / size) (e % size) ≡ true)
  failure_first d = (not-true _ (first.passes (omega (arith, first.upto))), λ e l. not-false _ (first.before e (omega arith) l))
