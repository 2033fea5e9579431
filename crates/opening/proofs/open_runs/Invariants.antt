-- `opening::open_runs` meets its contract. Assumes nothing.
use mathlib.Core.Bool.{true}
use mathlib.Core.Path.{◌≡◌}
use Prim.Native.Nat.{◌/◌, ◌-◌, ◌≤◌}
use lib.ListN.{length}
use Rattle.rows.specs.Rows.{Low}
use Rattle.code.specs.Code.{narrow}
use Rattle.tables.specs.Tables.{table_size}
use Rattle.opening.specs.Steps.{opened, Walked, OneOf, AtBlock}
use Rattle.opening.proofs.open_runs.Given as goal

abbrev pub invariant-loop-block : goal.invariant-loop-block
invariant-loop-block l = (l.block ≤ l.block-end) × (l.block-end ≡ l.two / l.run) × (length l.table ≡ table_size) × Low narrow.modulus l.table × Walked (opened l.s l.list l.symbols) l.len l.room (OneOf l.block (AtBlock l.s l.list l.run)) l.initial.transcript l.transcript true

abbrev pub decreases-loop-block : goal.decreases-loop-block
decreases-loop-block l = l.block-end - l.block
