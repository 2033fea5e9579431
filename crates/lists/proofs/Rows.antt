-- What rows of one size, one behind the other, hold at each place.
use mathlib.Core.Path.{◌≡◌, refl, sym, ap, ◌∙◌}
use mathlib.Core.List.{List}
use Prim.Native.Nat.{ℕ, ◌+◌, ◌*◌, ◌/◌, ◌%◌, ◌≤◌, ◌<◌}
use native.Mathlib.Omega.{arith}
use lib.ListN.{length, get_or}
use Rattle.lists.specs.Lists.{tabulate}
use Rattle.lists.proofs.Tables.{is_tabulate}
use Rattle.lists.proofs.Places.{Place, place_of}

-- at the places below `upto`, n rows hold the columns f 0, f 1, ..
pub record Columns (n size upto : ℕ) (f : ℕ → List ℕ) (rows : List ℕ) : Type 0 where
  pub each : (i p : ℕ) → i < n → p < upto → i * size + p < length rows → get_or rows (i * size + p) 0 ≡ get_or (f p) i 0

pub columns_end : (n size : ℕ) (f : ℕ → List ℕ) (rows : List ℕ) → length rows ≤ n * size → Columns n size size f rows
    → rows ≡ tabulate (length rows) (λ e. get_or (f (e % size)) (e / size) 0)
columns_end n size f rows room w = is_tabulate rows (length rows) _ 0 refl (λ e h. go e h (place_of n size e (omega arith)))
  where
    go : (e : ℕ) → e < length rows → Place n size e → get_or rows e 0 ≡ get_or (f (e % size)) (e / size) 0
    go e h p = ap (λ k. get_or rows k 0) (sym p.whole) ∙ w.each (e / size) (e % size) p.row p.place (rw p.whole h)
