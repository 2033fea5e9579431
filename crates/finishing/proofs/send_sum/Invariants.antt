-- `finishing::send_sum` meets its contract: the messages passed have their symbol, and nothing else has changed. Assumes nothing.
use Prim.Native.Nat.{◌-◌, ◌≤◌}
use Rattle.finishing.specs.Steps.{SentAt}
use Rattle.finishing.proofs.send_sum.Given as goal

abbrev pub invariant-loop-j : goal.invariant-loop-j
invariant-loop-j l = (l.j ≤ l.others) × SentAt l.dead l.u l.share l.x l.j l.column l.initial.out l.out

abbrev pub decreases-loop-j : goal.decreases-loop-j
decreases-loop-j l = l.others - l.j
