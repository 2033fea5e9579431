-- `transfers::write_refusal` meets its contract: the line of the cause's number. Assumes nothing.
use native.Mathlib.Omega.{arith}
use Rattle.transfers.proofs.Room.{refusal_fits, number_small}
use Rattle.transfers.proofs.write_refusal.Goals as goal

pub write_line-requires : goal.write_line-requires
write_line-requires c = rw c.from.ensures (omega (arith, refusal_fits _ (number_small c.args.cause)))

pub returns : goal.returns
returns c = rw c.from.ensures at c.write_line.ensures
