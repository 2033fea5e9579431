-- `transfers::write_decimal` meets its contract: each call has a smaller number.
use Rattle.transfers.proofs.+write_decimal.Given as goal

abbrev pub decreases-write_decimal : goal.decreases-write_decimal
decreases-write_decimal l = l.number
