-- `tables::all_rows` meets its contract. Assumes nothing.
use mathlib.Core.Path.{◌≡◌}
use mathlib.Core.Bool.{false}
use mathlib.Core.List.{List}
use Prim.Native.Nat.{ℕ}
use lib.ListN.{length, get_or}
use Rattle.tables.specs.Tables.{table_size, PointRows, Columns, TableOver}
use Rattle.tables.proofs.all_rows.Given as goal

abbrev pub invariant-loop-i : goal.invariant-loop-i
invariant-loop-i l = (length l.table ≡ table_size) × ((P : ℕ → List ℕ) → Columns l.n P → PointRows l.n P l.run l.points → TableOver P l.run l.list (λ e. get_or l.skipped e false) l.i l.table)
