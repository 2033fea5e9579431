-- `tables::differences` meets its contract. Assumes nothing.
use Rattle.tables.specs.Tables.{DifferenceRow}
use Rattle.tables.proofs.differences.Given as goal

abbrev pub invariant-loop-m : goal.invariant-loop-m
invariant-loop-m l = DifferenceRow l.n l.run l.points l.marked l.i l.x l.m l.out
