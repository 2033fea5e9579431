-- `stretches::past_end` meets its contract. Assumes nothing.
use Rattle.std.proofs.Common.{ℕ, ◌<◌, length}
use Rattle.stretches.proofs.Judging.{EndWithin}
use Rattle.stretches.proofs.past_end.Given as goal

abbrev pub invariant-loop-pair : goal.invariant-loop-pair
invariant-loop-pair l = (m : ℕ) → m < length l.yielded → EndWithin l.stretches l.len m
