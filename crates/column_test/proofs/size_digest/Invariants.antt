-- `column_test::size_digest` meets its contract. Assumes nothing.
use Rattle.std.proofs.Common.{◌<◌}
use Rattle.column_test.proofs.size_digest.Given as goal

abbrev pub invariant-loop : goal.invariant-loop
invariant-loop l = (l.seed < 2147483648) × (l.digest < 4294967291)
