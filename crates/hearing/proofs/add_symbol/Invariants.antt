-- `hearing::add_symbol` meets its contract. Assumes nothing.
use Rattle.std.proofs.Common.{◌≡◌, ◌+◌, ℕ, ◌<◌, ◌≤◌, get_or}
use Rattle.hearing.specs.Steps.{summed}
use Rattle.hearing.proofs.add_symbol.Given as goal

abbrev pub invariant-loop-t : goal.invariant-loop-t
invariant-loop-t l = record {
  passed : (k : ℕ) → k < l.t → get_or l.sum-items k 0 ≡ summed l.symbol l.factors l.from l.at l.fn.sums k;
  left : (k : ℕ) → l.t ≤ k → k < l.r → get_or l.sum-items k 0 ≡ get_or l.fn.sums (l.at + k) 0;
}
