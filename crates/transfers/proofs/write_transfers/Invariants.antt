-- `transfers::write_transfers` meets its contract: the lines of the transfers from number e on are still to be written, at the place. Assumes nothing.
use Rattle.transfers.specs.Plan.{transfers, transfer_line}
use Rattle.transfers.proofs.Lines.{Lines}
use Rattle.transfers.proofs.write_transfers.Given as goal

abbrev pub invariant-loop-e : goal.invariant-loop-e
invariant-loop-e l = Lines (transfer_line l.symbols) (transfers l.dead l.helpers) l.initial.text l.at l.e l.text l.place
