-- `comparing::same_row` meets its contract. Assumes nothing.
use Rattle.std.proofs.Common.{◌≡◌, true, length}
use Rattle.rows.specs.Rows.{Stored, remainder}
use Rattle.comparing.proofs.same_row.Given as goal

abbrev pub invariant-loop-sum : goal.invariant-loop-sum
invariant-loop-sum l = l.same ≡ true → Stored l.at (length l.yielded) (remainder l.q l.fn.sums) l.symbols l.symbols
