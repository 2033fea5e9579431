-- `hmsr::hmsr_open_stretches` meets its contract: a refusal's number, or 256 and the count of symbols read. Assumes nothing.
use native.Mathlib.Omega.{arith}
use Rattle.stretches.proofs.Promised.{read_small}
use Rattle.hmsr.proofs.hmsr_open_stretches.Goals as goal

pub found_number-requires : goal.found_number-requires
found_number-requires c = λ found e. omega (arith, read_small _ _ _ _ _ _ _ _ _ _ _ e c.open_stretches.ensures)

pub returns : goal.returns
returns c = record { answer = _; kept = c.open_stretches.ensures; returned = c.found_number.ensures }
