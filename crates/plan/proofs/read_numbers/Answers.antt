-- `plan::read_numbers` meets its contract: the numbers that were not reached are still to be read, at the place. Assumes nothing.
use mathlib.Core.Path.{sym, ◌∙◌}
use native.Mathlib.Omega.{arith}
use Rattle.plan.specs.Promises.{numbers_of}
use Rattle.plan.proofs.Reading.{reading_none, reading_next, reading_bad, reading_end}
use Rattle.plan.proofs.read_numbers.Goals as goal

pub loop-number-init : goal.loop-number-init
loop-number-init c = reading_none _ _ _

pub returns-in_err-read : goal.returns-in_err-read
unfolding numbers_of
returns-in_err-read c = rw c.from_residual.ensures (reading_bad c.loop-number.invariant (omega arith) (sym c.read_number.ensures ∙ c.in_err-read.was))

pub loop-number-preserved : goal.loop-number-preserved
loop-number-preserved c = reading_next c.loop-number.invariant (omega arith) (sym c.read_number.ensures ∙ c.in_ok-read.was)

pub returns : goal.returns
returns c = reading_end c.loop-number.invariant (omega arith)
