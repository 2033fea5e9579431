-- `hmsr::hmsr_correct` meets its contract: a signed number is handed on as its bits, which give it back. Assumes nothing.
use mir.Facts.{to_z-of_z}
use Rattle.hmsr.proofs.hmsr_correct.Goals as goal

pub returns : goal.returns
returns c =
    record { answer = _; kept = rw (to_z-of_z c.ranges.change) at c.correct.ensures; returned = c.answer_number.ensures }
