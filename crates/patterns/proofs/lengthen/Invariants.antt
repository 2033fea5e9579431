-- `patterns::lengthen` meets its contract. Assumes nothing.
use Rattle.std.proofs.Common.{◌≡◌, ℕ, ◌<◌, ◌≤◌, get_or}
use Rattle.patterns.specs.Patterns.{lengthened}
use Rattle.patterns.proofs.lengthen.Given as goal

abbrev pub invariant-loop-t : goal.invariant-loop-t
invariant-loop-t l = record {
  passed : (k : ℕ) → k < l.t → get_or l.pattern-items k 0 ≡ lengthened l.a l.node l.fn.row k;
  left : (k : ℕ) → l.t ≤ k → k < l.run → get_or l.pattern-items k 0 ≡ get_or l.fn.row k 0;
}
