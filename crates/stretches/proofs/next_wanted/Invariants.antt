-- `stretches::next_wanted` meets its contract. Assumes nothing.
use Rattle.std.proofs.Common.{length}
use Rattle.stretches.proofs.Runs.{NextUpto}
use Rattle.stretches.proofs.next_wanted.Given as goal

abbrev pub invariant-loop-pair : goal.invariant-loop-pair
invariant-loop-pair l = NextUpto l.stretches l.modulus l.rest l.from l.most l.found (length l.yielded)
