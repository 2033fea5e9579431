-- `stretches::place_row` meets its contract. Assumes nothing.
use mathlib.Core.Bool.{true}
use mathlib.Core.Path.{◌≡◌}
use Prim.Native.Nat.{ℕ, ◌+◌, ◌<◌}
use lib.ListN.{length, get_or}
use Rattle.opening.specs.Steps.{Walked, OneOf}
use Rattle.stretches.specs.Stretches.{bytes_before}
use Rattle.stretches.specs.Steps.{byte_at}
use Rattle.stretches.proofs.Walks.{AtStretch}
use Rattle.stretches.proofs.place_row.Given as goal

abbrev pub invariant-loop-pair : goal.invariant-loop-pair
invariant-loop-pair l = (l.at ≡ bytes_before l.stretches (length l.yielded)) × (length l.bytes ≡ length l.initial.bytes) × ((D : ℕ → ℕ) → ((t : ℕ) → t < length l.row → D (l.b + t) ≡ get_or l.row t 0) → Walked (λ e. D (byte_at l.stretches e)) l.len l.room (OneOf (length l.yielded) (AtStretch l.stretches l.b (length l.row))) l.initial.bytes l.bytes true)
