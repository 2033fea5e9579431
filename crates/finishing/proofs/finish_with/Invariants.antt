-- `finishing::finish_with` meets its contract: the sums passed are finished. Assumes nothing.
use Prim.Native.Nat.{◌-◌, ◌≤◌}
use Rattle.finishing.specs.Steps.{FinishedTo}
use Rattle.finishing.proofs.finish_with.Given as goal

abbrev pub invariant-loop-x : goal.invariant-loop-x
invariant-loop-x l = (l.x ≤ l.x-end) × FinishedTo l.g.shape l.dead l.helpers l.u l.sums l.x l.initial.pairs l.pairs l.initial.out l.out

abbrev pub decreases-loop-x : goal.decreases-loop-x
decreases-loop-x l = l.x-end - l.x
