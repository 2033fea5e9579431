-- `rows::scale` meets its contract. Assumes nothing.
use Rattle.std.proofs.Common.{◌≡◌, ℕ, ◌<◌, ◌≤◌, get_or}
use Rattle.rows.specs.Rows.{scaled}
use Rattle.rows.proofs.scale.Given as goal

abbrev pub invariant-loop-i : goal.invariant-loop-i
invariant-loop-i l = record {
  passed : (k : ℕ) → k < l.i → get_or l.product-items k 0 ≡ scaled l.q l.points l.x l.y l.fn.row k;
  left : (k : ℕ) → l.i ≤ k → k < l.run → get_or l.product-items k 0 ≡ get_or l.fn.row k 0;
}
