-- `wiring::renew` meets its contract: the second steps of the ranks passed are done. Assumes nothing.
use mathlib.Core.Path.{◌≡◌}
use lib.ListN.{length}
use Rattle.wiring.proofs.Ranked.{Renewing}
use Rattle.wiring.proofs.renew.Given as goal

abbrev pub invariant-loop-u : goal.invariant-loop-u
invariant-loop-u l = Renewing l.g.shape l.dead l.u l.initial.nodes l.nodes l.wire × (length l.class ≡ length l.initial.class)
