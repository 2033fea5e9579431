-- `batches::cross_rows` meets its contract. Assumes nothing.
use mathlib.Core.Path.{◌≡◌}
use Prim.Native.Nat.{◌-◌, ◌≤◌}
use lib.ListN.{length}
use Rattle.lists.specs.Lists.{range}
use Rattle.rows.specs.Rows.{most_places}
use Rattle.code.specs.Code.{narrow}
use Rattle.batches.specs.Batches.{turned, left_in, Stored}
use Rattle.batches.proofs.cross_rows.Given as goal

abbrev pub invariant-loop-x : goal.invariant-loop-x
invariant-loop-x l = (l.x ≤ l.count) × (l.count ≡ length l.sums) × (length l.left ≡ most_places) × Stored l.x (turned (range 0 (length l.sums)) l.turn) (left_in narrow (range 0 (length l.sums)) 0 l.sums l.initial.symbols) l.initial.symbols l.symbols

abbrev pub decreases-loop-x : goal.decreases-loop-x
decreases-loop-x l = l.count - l.x
