-- `hearing::note` meets its contract: the count is one more, and the helper stands behind those counted before. Assumes nothing.
use Prim.Native.Nat.{◌+◌, ◌<◌}
use native.Mathlib.Omega.{arith}
use lib.ListN.{length, get_or, length-set}
use Rattle.arrival.proofs.Records.{count_at, noted_is}
use Rattle.hearing.proofs.note.Goals as goal
use Rattle.hearing.proofs.note.Goals.{After-slice_known-1}

room : (c : After-slice_known-1) → get_or c.args.heard.now 0 0 + 1 < length c.args.heard.now
room c = omega (arith, c.requires, count_at c.args.heard.now)

pub overflow_add-count : goal.overflow_add-count
overflow_add-count c = omega (arith, room c)

pub offset_bounds-heard-count : goal.offset_bounds-heard-count
offset_bounds-heard-count c = omega (arith, room c)

pub bounds-heard-count : goal.bounds-heard-count
bounds-heard-count c = omega (arith, room c)

pub bounds-heard-0-2 : goal.bounds-heard-0-2
bounds-heard-0-2 c = simp length-set (omega (arith, room c))

pub returns : goal.returns
returns c = noted_is _ _ (omega (arith, room c))
