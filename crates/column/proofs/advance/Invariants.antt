-- The terms added and turned into those of the next equation, one at a time.
use Rattle.std.proofs.Common.{◌≡◌, ℕ, ◌*◌, ◌%◌, ◌≤◌, ◌<◌}
use Rattle.lists.specs.Lists.{element}
use Rattle.lists.specs.Sums.{sum}
use Rattle.column.proofs.advance.Given as goal

abbrev pub invariant-loop-i : goal.invariant-loop-i
invariant-loop-i l = record {
  fit : (k : ℕ) → element l.initial.terms k < 4294967296;
  few : l.sum ≤ l.i * 4294967295;
  added : l.sum ≡ sum l.i (element l.initial.terms);
  passed : (k : ℕ) → k < l.i → element l.terms k ≡ (element l.initial.terms k * element l.points k) % l.q;
  left : (k : ℕ) → l.i ≤ k → element l.terms k ≡ element l.initial.terms k;
}
