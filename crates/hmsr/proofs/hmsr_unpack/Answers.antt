-- `hmsr::hmsr_unpack` meets its contract: the part of the symbols' buffer comes back in place, and the header's buffer has six numbers. Assumes nothing.
use mathlib.Core.Path.{sym}
use lib.Seq.{length-take-le}
use Rattle.returned.proofs.Cards.{room_within, unpack_refused, header_six, unpack_done}
use Rattle.hmsr.proofs.hmsr_unpack.Goals as goal

pub slice_bounds-unpack-end : goal.slice_bounds-unpack-end
slice_bounds-unpack-end c = rw c.unpack_room-room.ensures (room_within _ _)

pub slice_bounds-unpack-end-2 : goal.slice_bounds-unpack-end-2
slice_bounds-unpack-end-2 c = sym (length-take-le _ _ (rw c.unpack_room-room.ensures (room_within _ _)))

pub store_header-requires : goal.store_header-requires
store_header-requires c =
    header_six _ _ c.args.header.now _ _ c.unpack_room-room.ensures _ c.unpack.ensures _ c.in-Ok.is

pub returns-in-Err : goal.returns-in-Err
returns-in-Err c =
    rw c.from.ensures (unpack_refused _ _ _ _ _ c.unpack_room-room.ensures _ c.unpack.ensures _ c.in-Err.is)

pub returns-in-Ok : goal.returns-in-Ok
returns-in-Ok c =
    unpack_done _ _ _ _ _ c.unpack_room-room.ensures _ c.unpack.ensures _ c.in-Ok.is _
    c.store_header.ensures
