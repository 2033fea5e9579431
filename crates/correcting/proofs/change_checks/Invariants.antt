-- `correcting::change_checks` meets its contract: one check node more. Assumes nothing.
use Prim.Native.Nat.{◌-◌, ◌≤◌}
use Rattle.correcting.specs.Steps.{Changed}
use Rattle.correcting.proofs.change_checks.Given as goal

abbrev pub invariant-loop-i : goal.invariant-loop-i
invariant-loop-i l = (l.initial.i ≤ l.i) × (l.i ≤ l.i-end) × Changed l.initial.i l.i l.each l.place l.by l.initial.nodes l.nodes

abbrev pub decreases-loop-i : goal.decreases-loop-i
decreases-loop-i l = l.i-end - l.i
