-- `tables::entry_rows` meets its contract. Assumes nothing.
use mathlib.Core.Path.{◌≡◌}
use mathlib.Core.List.{List}
use Prim.Native.Nat.{ℕ}
use lib.ListN.{length}
use Rattle.tables.specs.Tables.{PointRows, Columns, Marks, RowsOver}
use Rattle.tables.proofs.entry_rows.Given as goal

abbrev pub invariant-loop-j : goal.invariant-loop-j
invariant-loop-j l = (length l.table ≡ length l.initial.table) × ((P : ℕ → List ℕ) → Columns l.n P → PointRows l.n P l.run l.points → Marks l.n l.list l.marked → RowsOver P l.run l.list l.i l.j l.initial.table l.table)
