-- `stretches::run_bad` meets its contract. Assumes nothing.
use Prim.Native.Nat.{ℕ, ◌+◌, ◌-◌, ◌*◌, ◌≤◌, ◌<◌}
use lib.ListN.{get_or}
use Rattle.code.specs.Code.{narrow}
use Rattle.stretches.proofs.run_bad.Given as goal

abbrev pub invariant-loop-j : goal.invariant-loop-j
invariant-loop-j l = (l.j ≤ l.k) × ((i p : ℕ) → i < l.j → l.at ≤ p → p < l.end → get_or l.symbols (i * l.each + p) 0 < narrow.modulus)

abbrev pub decreases-loop-j : goal.decreases-loop-j
decreases-loop-j l = l.k - l.j
