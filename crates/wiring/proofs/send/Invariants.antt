-- `wiring::send` meets its contract: the messages to the ranks passed stand one behind the other. Assumes nothing.
use mathlib.Core.Path.{◌≡◌}
use Prim.Native.Nat.{◌-◌, ◌≤◌}
use lib.ListN.{length}
use Rattle.lists.specs.Lists.{flat}
use Rattle.lists.proofs.Buffers.{onto}
use Rattle.code.specs.Code.{narrow}
use Rattle.classes.specs.Whole.{from_helpers}
use Rattle.wiring.proofs.send.Given as goal

abbrev pub invariant-loop-u : goal.invariant-loop-u
invariant-loop-u l =
    (l.u ≤ length l.dead) × (l.u-end ≡ length l.dead) × (length l.wire ≡ length l.initial.wire)
    × (l.wire ≡ onto (flat l.u (from_helpers narrow l.g.shape l.dead l.helpers l.nodes)) l.initial.wire) × (length l.class ≡ length l.initial.class)

abbrev pub decreases-loop-u : goal.decreases-loop-u
decreases-loop-u l = l.u-end - l.u
