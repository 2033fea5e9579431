-- `hmsr::hmsr_plan` meets its contract: a refusal's number, or 256 and the text's length. Assumes nothing.
use native.Mathlib.Omega.{arith}
use Rattle.plan.proofs.Promised.{text_fits}
use Rattle.hmsr.proofs.hmsr_plan.Goals as goal

pub found_number-requires : goal.found_number-requires
found_number-requires c = λ found e. omega (arith, text_fits _ _ _ _ found c.plan.ensures e)

pub returns : goal.returns
returns c = record { answer = _; kept = c.plan.ensures; returned = c.found_number.ensures }
