-- `solving::hand_out` meets its contract: the sums of the ranks passed stand at their places. Assumes nothing.
use Prim.Native.Nat.{◌<◌}
use Rattle.filling.specs.Filling.{InRun}
use Rattle.solving.specs.Solving.{Put, Other, slot_place, handed_sum}
use Rattle.solving.proofs.hand_out.Given as goal

abbrev pub invariant-loop-v : goal.invariant-loop-v
invariant-loop-v l = Put (Other l.h l.u) l.share (slot_place l.all l.h l.u l.share) (handed_sum l.dead l.helpers l.table l.sent l.first) (λ w x. (w < l.v) × InRun l.first l.run x) l.initial.out l.out
