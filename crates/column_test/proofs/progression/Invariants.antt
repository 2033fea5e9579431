-- `column_test::progression` meets its contract. Assumes nothing.
use Rattle.std.proofs.Common.{◌≡◌, ℕ, ◌<◌, get_or}
use Rattle.column_test.specs.Progression.{stepped}
use Rattle.column_test.proofs.progression.Given as goal

abbrev pub invariant-loop-i : goal.invariant-loop-i
invariant-loop-i l = (k : ℕ) → k < l.i → get_or l.points k 0 ≡ stepped l.base l.step k
