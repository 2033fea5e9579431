-- `filling::fill_run` meets its contract. Assumes nothing.
use Rattle.filling.specs.Filling.{FilledRun}
use Rattle.filling.proofs.fill_run.Given as goal

abbrev pub invariant-loop-i : goal.invariant-loop-i
invariant-loop-i l = FilledRun l.n l.each l.place l.run l.list l.table l.i l.initial.nodes l.nodes
