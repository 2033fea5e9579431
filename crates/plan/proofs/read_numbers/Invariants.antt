-- `plan::read_numbers` meets its contract: the numbers that were not reached are still to be read, at the place. Assumes nothing.
use Rattle.plan.proofs.Reading.{Reading}
use Rattle.plan.proofs.read_numbers.Given as goal

abbrev pub invariant-loop-number : goal.invariant-loop-number
invariant-loop-number l = Reading l.input l.start l.initial.numbers l.numbers l.number-index l.at
