-- `wiring::offsets` meets its contract: an a of the class is the first place of its sum in batch 0, and turned it is the other. Assumes nothing.
use mathlib.Core.Path.{◌≡◌}
use Prim.Native.Nat.{ℕ, ◌+◌, ◌<◌}
use lib.Bits.{bit_xor}
use lib.ListN.{length, get_or}
use Rattle.lists.specs.Lists.{element}
use Rattle.rows.specs.Rows.{most_places}
use Rattle.wiring.proofs.offsets.Given as goal

abbrev pub invariant-loop-t : goal.invariant-loop-t
invariant-loop-t l = (length l.out ≡ most_places) × ((k : ℕ) → k < l.t → element l.out k ≡ bit_xor (get_or l.fn.class (l.first + k) 0) l.turn)
