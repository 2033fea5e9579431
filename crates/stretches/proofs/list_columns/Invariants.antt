-- `stretches::list_columns` meets its contract. Assumes nothing.
use mathlib.Core.Path.{◌≡◌}
use Prim.Native.Nat.{◌-◌, ◌≤◌}
use lib.ListN.{length}
use Rattle.shape.specs.declared.Shape.{Shape}
use Rattle.shape.specs.Shape.{size}
use Rattle.stretches.proofs.Touching.{ColumnsTo}
use Rattle.stretches.proofs.list_columns.Given as goal

abbrev pub invariant-loop-at : goal.invariant-loop-at
invariant-loop-at l = (l.at ≤ l.each) × (l.count ≤ l.at) × (length l.columns ≡ length l.initial.columns) × ((s : Shape) → l.each ≡ size s → ColumnsTo s l.stretches l.at l.count l.columns)

abbrev pub decreases-loop-at : goal.decreases-loop-at
decreases-loop-at l = l.each - l.at
