-- `transfers::write_line` meets its contract: the numbers from number i on are still to be written, at the place. Assumes nothing.
use Rattle.transfers.proofs.Lines.{Line}
use Rattle.transfers.proofs.write_line.Given as goal

abbrev pub invariant-loop-i : goal.invariant-loop-i
invariant-loop-i l = Line l.numbers l.initial.text l.at l.i l.text l.place
