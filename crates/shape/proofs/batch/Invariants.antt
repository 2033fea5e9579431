-- `shape::batch` meets its contract: what is left has the odd part of h + 1, and the loop ends where it is odd itself. Assumes nothing.
use mathlib.Core.Path.{◌≡◌}
use Prim.Native.Nat.{◌+◌, ◌≤◌, ◌<◌}
use Rattle.shape.specs.Batches.{odd_part}
use Rattle.shape.proofs.batch.Given as goal

abbrev pub invariant-loop-s : goal.invariant-loop-s
invariant-loop-s l = (0 < l.s) × (l.s ≤ l.h + 1) × (odd_part l.h (l.h + 1) ≡ odd_part l.h l.s)

abbrev pub decreases-loop-s : goal.decreases-loop-s
decreases-loop-s l = l.s
