-- A message by the numbers of its sums.
use mathlib.Core.Path.{◌≡◌, sym, ap, ◌∙◌}
use mathlib.Core.List.{List}
use Prim.Native.Nat.{ℕ}
use lib.ListN.{get_or}
use Rattle.lists.specs.Lists.{tabulate}
use Rattle.lists.proofs.Tables.{is_tabulate, map_at}
use Rattle.shape.specs.declared.Shape.{Shape}
use Rattle.code.specs.Code.{Code}
use Rattle.classes.specs.Classes.{Sum, spot, no_spot, spots, spot_at, sum_at, message_size}
use Rattle.classes.specs.Steps.{added, helper_message}
use Rattle.classes.proofs.Dead.{Dead}
use Rattle.classes.proofs.Counts.{spots_size}
use Rattle.classes.proofs.Sums.{spots_at}
use Rattle.classes.proofs.FirstStep.{message_length}

-- the spot of a sum by its number
pub spot_number : (s : Shape) (dead : List ℕ) (u b a x : ℕ) → Sum s dead u b a → sum_at s dead u b a ≡ x → spot_at s dead u x ≡ spot s dead u b a
unfolding spot_at
spot_number s dead u b a x S e = ap (λ y. get_or (spots s dead u) y no_spot) (sym e) ∙ spots_at s dead u b a S no_spot

-- a message by the numbers of its sums
unfoldable pub message_at : Code → Shape → List ℕ → ℕ → List ℕ → ℕ → ℕ
message_at c s dead u symbols x = added c symbols (spot_at s dead u x)

pub message_table : (c : Code) {s : Shape} {dead : List ℕ} → Dead s dead → (u : ℕ) (symbols : List ℕ)
    → helper_message c s dead u symbols ≡ tabulate (message_size s dead) (message_at c s dead u symbols)
unfolding helper_message message_at spot_at
message_table c {s} {dead} D u symbols =
    is_tabulate (helper_message c s dead u symbols) (message_size s dead) (message_at c s dead u symbols) 0 (message_length D c u symbols)
    (λ x h. map_at (added c symbols) (spots s dead u) x no_spot 0 (rw (spots_size D u) h))
