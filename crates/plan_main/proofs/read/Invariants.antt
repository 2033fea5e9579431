-- `plan_main::read` meets its contract: what is read lies in the input's front.
use Rattle.std.proofs.Common.{length, ◌-◌, ◌≤◌}
use Rattle.plan_main.proofs.read.Given as goal

abbrev pub invariant-loop-done : goal.invariant-loop-done
invariant-loop-done g l = l.done ≤ length l.input

abbrev pub decreases-loop-done : goal.decreases-loop-done
decreases-loop-done g l = length l.initial.input - l.done
