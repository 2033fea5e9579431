-- `returned::unpack_room` meets its contract. Assumes nothing.
use mathlib.Core.Path.{sym}
use Rattle.returned.proofs.Cards.{room_six, room_other}
use Rattle.returned.proofs.unpack_room.Goals as goal

pub returns-then-header-eq-HEADER_COUNT : goal.returns-then-header-eq-HEADER_COUNT
returns-then-header-eq-HEADER_COUNT c = sym (room_six _ _ c.if-header-eq-HEADER_COUNT.true)

pub returns-else-header-eq-HEADER_COUNT : goal.returns-else-header-eq-HEADER_COUNT
returns-else-header-eq-HEADER_COUNT c = sym (room_other _ _ c.if-header-eq-HEADER_COUNT.false)
