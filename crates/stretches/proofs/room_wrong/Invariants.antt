-- `stretches::room_wrong` meets its contract. Assumes nothing.
use Rattle.std.proofs.Common.{◌≡◌, ◌+◌, length}
use Rattle.stretches.specs.Stretches.{bytes_before}
use Rattle.stretches.proofs.room_wrong.Given as goal

abbrev pub invariant-loop-pair : goal.invariant-loop-pair
invariant-loop-pair l = l.left + bytes_before l.stretches (length l.yielded) ≡ l.room
