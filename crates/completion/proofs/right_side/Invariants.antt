-- What the known values lack to 0, an equation at a time.
use Rattle.std.proofs.Common.{◌≡◌, ℕ, ◌≤◌, ◌<◌, List}
use Rattle.lists.specs.Lists.{element}
use Rattle.field.specs.Residues.{minus}
use Rattle.column.specs.Column.{parity}
use Rattle.completion.proofs.right_side.Given as goal

-- the right side of equation t
abbrev pub lacking : ℕ → List ℕ → List ℕ → ℕ → ℕ
lacking q points values t = minus q 0 (parity q points values t)

abbrev pub invariant-loop-sum : goal.invariant-loop-sum
invariant-loop-sum l = record {
  passed : (u : ℕ) → u < l.sum-index → element l.sum-items u ≡ lacking l.q l.points l.values u;
  left : (u : ℕ) → l.sum-index ≤ u → u < l.r → element l.sum-items u ≡ parity l.q l.points l.values u;
}
