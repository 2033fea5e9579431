-- `comparing::run_met` meets its contract: what would be filled in at the nodes passed is there already. Assumes nothing.
use Rattle.filling.specs.Filling.{FilledRun}
use Rattle.comparing.proofs.run_met.Given as goal

abbrev pub invariant-loop-i : goal.invariant-loop-i
invariant-loop-i l = FilledRun l.n l.each l.place l.run l.list l.table l.i l.nodes l.nodes
