-- `numbers::write_numbers` meets its contract: the numerals of the numbers that were not reached are still to be written.
use Rattle.numbers.proofs.Numerals.{Numerals}
use Rattle.numbers.proofs.write_numbers.Given as goal

abbrev pub invariant-loop-number : goal.invariant-loop-number
invariant-loop-number l = Numerals l.numbers l.initial.card l.at l.number-index l.card l.place
