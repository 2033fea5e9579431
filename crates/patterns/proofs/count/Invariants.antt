-- `patterns::count` meets its contract. Assumes nothing.
use Rattle.std.proofs.Common.{◌≡◌}
use Rattle.patterns.specs.Patterns.{patterns}
use Rattle.patterns.proofs.count.Given as goal

abbrev pub invariant-loop-listed : goal.invariant-loop-listed
invariant-loop-listed l = l.out ≡ patterns l.fn.marked l.listed-index
