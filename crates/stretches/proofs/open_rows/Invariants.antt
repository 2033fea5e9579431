-- `stretches::open_rows` meets its contract. Assumes nothing.
use mathlib.Core.Path.{◌≡◌}
use mathlib.Core.Bool.{true}
use Prim.Native.Nat.{◌-◌, ◌%◌, ◌^◌, ◌≤◌, ◌<◌}
use Rattle.opening.specs.Steps.{opened, Walked}
use Rattle.stretches.specs.Steps.{Wanted, byte_at, ComeOut}
use Rattle.stretches.proofs.Walks.{RunsBefore}
use Rattle.stretches.proofs.open_rows.Given as goal

abbrev pub invariant-loop-b : goal.invariant-loop-b
invariant-loop-b l = (l.b ≤ l.most) × (l.b < l.most → (l.b % 2 ^ l.s.n ≡ l.a) × Wanted l.stretches l.b) × Walked (λ e. opened l.s l.list l.symbols (byte_at l.stretches e)) l.len l.room (ComeOut l.stretches (RunsBefore (2 ^ l.s.n) l.a l.run l.b)) l.initial.bytes l.bytes true

abbrev pub decreases-loop-b : goal.decreases-loop-b
decreases-loop-b l = l.most - l.b
