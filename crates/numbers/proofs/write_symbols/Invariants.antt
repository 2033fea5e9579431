-- `numbers::write_symbols` meets its contract: the numerals of the symbols that were not reached are still to be written.
use Rattle.numbers.proofs.Numerals.{Numerals}
use Rattle.numbers.proofs.write_symbols.Given as goal

abbrev pub invariant-loop-symbol : goal.invariant-loop-symbol
invariant-loop-symbol l = Numerals l.symbols l.initial.card l.at l.symbol-index l.card l.place
