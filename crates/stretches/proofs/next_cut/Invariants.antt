-- `stretches::next_cut` meets its contract. Assumes nothing.
use Rattle.std.proofs.Common.{length}
use Rattle.stretches.proofs.Runs.{UncutUpto}
use Rattle.stretches.proofs.next_cut.Given as goal

abbrev pub invariant-loop-pair : goal.invariant-loop-pair
invariant-loop-pair l = UncutUpto l.stretches l.modulus l.at l.end (length l.yielded)
