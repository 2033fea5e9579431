-- `column_test::digested` meets its contract. Assumes nothing.
use Rattle.std.proofs.Common.{◌<◌}
use Rattle.column_test.proofs.digested.Given as goal

abbrev pub invariant-loop-x : goal.invariant-loop-x
invariant-loop-x l = l.digest < 4294967291
