-- `finishing::right_sides` meets its contract. Assumes nothing.
use Rattle.std.proofs.Common.{◌≡◌, ℕ, ◌+◌, ◌<◌, get_or}
use Rattle.field.specs.Residues.{minus}
use Rattle.code.specs.Code.{narrow}
use Rattle.finishing.proofs.right_sides.Given as goal

abbrev pub invariant-loop-t : goal.invariant-loop-t
invariant-loop-t l = (k : ℕ) → k < l.t → get_or l.side-items k 0 ≡ minus narrow.modulus 0 (get_or l.sums (l.at + k) 0)
