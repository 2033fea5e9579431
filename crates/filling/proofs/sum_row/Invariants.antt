-- `filling::sum_row` meets its contract. Assumes nothing.
use Rattle.filling.specs.Filling.{Summed}
use Rattle.filling.proofs.sum_row.Given as goal

abbrev pub invariant-loop-j : goal.invariant-loop-j
invariant-loop-j l = Summed l.run l.each l.place l.rows l.table l.first l.symbols l.j l.sums
