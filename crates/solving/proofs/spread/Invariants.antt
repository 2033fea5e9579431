-- `solving::spread` meets its contract: no two places are one. Assumes nothing.
use lib.ListN.{length}
use Rattle.code.specs.Code.{narrow}
use Rattle.rows.specs.Rows.{remainder}
use Rattle.solving.specs.Solving.{Spread}
use Rattle.solving.proofs.spread.Given as goal

abbrev pub invariant-loop-sum : goal.invariant-loop-sum
invariant-loop-sum l = Spread (length l.yielded) l.base l.at (remainder narrow.modulus l.fn.sums) l.initial.out l.out
