-- `hmsr::hmsr_pack` meets its contract: a refusal's number, or 256 and the card's length. Assumes nothing.
use native.Mathlib.Omega.{arith}
use Rattle.returned.proofs.Cards.{card_short}
use Rattle.hmsr.proofs.hmsr_pack.Goals as goal

pub found_number-requires : goal.found_number-requires
found_number-requires c = λ found e. omega (arith, card_short _ _ _ _ _ found c.pack.ensures e)

pub returns : goal.returns
returns c = record { answer = _; kept = c.pack.ensures; returned = c.found_number.ensures }
