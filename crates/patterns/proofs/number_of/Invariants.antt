-- `patterns::number_of` meets its contract. Assumes nothing.
use Rattle.patterns.specs.Patterns.{Making}
use Rattle.patterns.proofs.number_of.Given as goal

abbrev pub invariant-loop-i : goal.invariant-loop-i
invariant-loop-i l = Making l.n l.marked l.pattern l.i l.rest l.out
