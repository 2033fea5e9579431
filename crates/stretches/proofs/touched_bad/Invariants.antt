-- `stretches::touched_bad` meets its contract. Assumes nothing.
use mathlib.Core.Path.{◌≡◌}
use mathlib.Core.Bool.{true}
use Prim.Native.Nat.{ℕ, ◌-◌, ◌≤◌, ◌<◌}
use Rattle.code.specs.Code.{narrow}
use Rattle.code.specs.Archive.{symbol}
use Rattle.stretches.specs.Stretches.{touched}
use Rattle.stretches.proofs.touched_bad.Given as goal

abbrev pub invariant-loop-at : goal.invariant-loop-at
invariant-loop-at l = (l.at ≤ l.each) × ((j p : ℕ) → j < l.s.k → p < l.at → touched l.s l.stretches p ≡ true → symbol l.s l.symbols j p < narrow.modulus)

abbrev pub decreases-loop-at : goal.decreases-loop-at
decreases-loop-at l = l.each - l.at
