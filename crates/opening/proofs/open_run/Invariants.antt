-- `opening::open_run` meets its contract. Assumes nothing.
use mathlib.Core.Bool.{true}
use Prim.Native.Nat.{◌-◌, ◌≤◌}
use Rattle.opening.specs.Steps.{opened, Walked, OneOf, AtRun}
use Rattle.opening.proofs.open_run.Given as goal

abbrev pub invariant-loop-i : goal.invariant-loop-i
invariant-loop-i l = (l.i ≤ l.k) × Walked (opened l.s l.list l.symbols) l.len l.room (OneOf l.i (AtRun l.s l.list l.run l.place)) l.initial.transcript l.transcript true

abbrev pub decreases-loop-i : goal.decreases-loop-i
decreases-loop-i l = l.k - l.i
