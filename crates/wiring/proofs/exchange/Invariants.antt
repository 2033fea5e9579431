-- `wiring::exchange` meets its contract: the first steps of the ranks passed are done. Assumes nothing.
use mathlib.Core.Path.{◌≡◌}
use lib.ListN.{length}
use Rattle.wiring.proofs.Ranked.{Exchanging}
use Rattle.wiring.proofs.exchange.Given as goal

abbrev pub invariant-loop-u : goal.invariant-loop-u
invariant-loop-u l = Exchanging l.g.shape l.dead l.helpers l.u l.initial.nodes l.nodes l.initial.wire l.wire × (length l.class ≡ length l.initial.class)
