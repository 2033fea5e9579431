-- `stretches::walk` meets its contract. Assumes nothing.
use mathlib.Core.Path.{◌≡◌}
use mathlib.Core.Bool.{true}
use Prim.Native.Nat.{◌-◌, ◌^◌, ◌≤◌}
use lib.ListN.{length}
use Rattle.rows.specs.Rows.{Low}
use Rattle.code.specs.Code.{narrow}
use Rattle.tables.specs.Tables.{table_size}
use Rattle.opening.specs.Steps.{opened, Walked}
use Rattle.stretches.specs.Steps.{byte_at, ComeOut}
use Rattle.stretches.proofs.Walks.{Below}
use Rattle.stretches.proofs.walk.Given as goal

abbrev pub invariant-loop-a : goal.invariant-loop-a
invariant-loop-a l = (l.a ≤ l.two) × (length l.table ≡ table_size) × Low narrow.modulus l.table × Walked (λ e. opened l.s l.list l.symbols (byte_at l.stretches e)) l.len l.room (ComeOut l.stretches (Below (2 ^ l.s.n) l.a)) l.initial.bytes l.bytes true

abbrev pub decreases-loop-a : goal.decreases-loop-a
decreases-loop-a l = l.two - l.a
