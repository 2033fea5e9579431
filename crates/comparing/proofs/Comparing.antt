-- What it tells that storing would change nothing: a row that is there already, one element more.
use mathlib.Core.Path.{◌≡◌, refl, sym, ◌∙◌}
use mathlib.Core.Bool.{Bool, true, ◌&&◌}
use mathlib.Core.List.{List}
use Prim.Native.Nat.{ℕ, ◌+◌, ◌<◌}
use native.Mathlib.Decide.{ℕ_discrete}
use native.Mathlib.Omega.{arith}
use borrow.Author.Tests.{eqb-true}
use lib.Dec.{eqb}
use lib.ListN.{get_or}
use Rattle.lists.proofs.Tests.{both}
use Rattle.rows.specs.Rows.{Stored}

-- one element more is there already
pub same_more : (at i : ℕ) (f : ℕ → ℕ) (xs : List ℕ) (same : Bool) {v x : ℕ} → (same ≡ true → Stored at i f xs xs) → v ≡ f i → x ≡ get_or xs (at + i) 0 → same && eqb v x ≡ true
    → Stored at (i + 1) f xs xs
same_more at i f xs same {v} {x} so_far sum symbol e = record {
  long = refl;
  there = λ j h. go j h (ℕ_discrete j i);
  ahead = λ j h. refl;
  behind = λ j h. refl;
}
  where
    go : (j : ℕ) → j < i + 1 → Dec (j ≡ i) → get_or xs (at + j) 0 ≡ f j
    go j h (yes d) = rw d (sym (sym sum ∙ eqb-true v x (both same (eqb v x) e).1 ∙ symbol))
    go j h (no d) = (so_far (both same (eqb v x) e).0).there j (omega arith)
