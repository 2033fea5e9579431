-- `wiring::messages_to` meets its contract: the messages of the helpers passed stand one behind the other. Assumes nothing.
use mathlib.Core.Path.{◌≡◌}
use lib.ListN.{length}
use Rattle.lists.specs.Lists.{flat}
use Rattle.lists.proofs.Buffers.{onto}
use Rattle.code.specs.Code.{narrow}
use Rattle.classes.specs.Whole.{from_helper}
use Rattle.wiring.proofs.messages_to.Given as goal

abbrev pub invariant-loop-j : goal.invariant-loop-j
invariant-loop-j l =
    (length l.out ≡ length l.initial.out)
    × (l.out ≡ onto (flat l.j (from_helper narrow l.g.shape l.dead l.helpers l.nodes l.u)) l.initial.out)
