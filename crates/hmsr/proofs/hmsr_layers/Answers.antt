-- `hmsr::hmsr_layers` meets its contract: a refusal's number, or 256 and the layers. Assumes nothing.
use native.Mathlib.Omega.{arith}
use Rattle.hmsr.proofs.hmsr_layers.Goals as goal

pub found_number-requires : goal.found_number-requires
found_number-requires c = λ found e. omega (arith, c.layers.ensures.range found e)

pub returns : goal.returns
returns c = record { answer = _; kept = c.layers.ensures; returned = c.found_number.ensures }
