-- `rows::add_products` meets its contract. Assumes nothing.
use Rattle.std.proofs.Common.{◌≡◌, ℕ, ◌<◌, ◌≤◌, get_or}
use Rattle.rows.specs.Rows.{added}
use Rattle.rows.proofs.add_products.Given as goal

abbrev pub invariant-loop-i : goal.invariant-loop-i
invariant-loop-i l = record {
  passed : (k : ℕ) → k < l.i → get_or l.sum-items k 0 ≡ added l.factors l.f l.symbols l.s l.fn.sums k;
  left : (k : ℕ) → l.i ≤ k → k < l.run → get_or l.sum-items k 0 ≡ get_or l.fn.sums k 0;
}
