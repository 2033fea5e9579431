-- `solving::gather` meets its contract: each helper has a row of its own. Assumes nothing.
use Rattle.solving.specs.Solving.{Gathered}
use Rattle.solving.proofs.gather.Given as goal

abbrev pub invariant-loop-j : goal.invariant-loop-j
invariant-loop-j l = Gathered l.helpers l.share l.first l.run l.messages l.j l.sent
