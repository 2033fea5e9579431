-- `correcting::residue` meets its contract: the modulus plus the change is not below 0, and has its residue. Assumes nothing.
use mathlib.Core.Path.{◌≡◌, sym, ap, ◌∙◌}
use Prim.Native.Nat.{◌%◌}
use native.Mathlib.Omega.{arith}
use lib.IntN.{pos, ◌+ℤ◌, nat_abs}
use lib.Signed.{mag}
use mir.Syntax.{w64}
use mir.Val.{to_z, of_z}
use mir.Facts.{to_z-of_z}
use Rattle.correcting.specs.Signed.{moved}
use Rattle.correcting.proofs.Signed.{sum_low, change_raised, residue_by_sum}
use Rattle.correcting.proofs.residue.Goals as goal
use Rattle.correcting.proofs.residue.Goals.{Start}

raised : (c : Start) → pos 257 +ℤ c.args.change ≡ pos (moved 257 c.args.change)
raised c = change_raised 257 c.args.change (omega arith) c.requires

pub overflow_add-result : goal.overflow_add-result
overflow_add-result c = record { sfits = rw (to_z-of_z c.ranges.change) (omega (arith, sum_low 257 c.args.change c.requires)) }

-- the sum, read back from its bits
back : (c : Start) → to_z w64 (of_z w64 (pos 257 +ℤ to_z w64 (of_z w64 c.args.change))) ≡ pos (moved 257 c.args.change)
back c = to_z-of_z (overflow_add-result c) ∙ ap (λ u. pos 257 +ℤ u) (to_z-of_z c.ranges.change) ∙ raised c

pub overflow_cast-result-2 : goal.overflow_cast-result-2
overflow_cast-result-2 c = rw (back c) (tt, record { fits = omega (arith, sum_low 257 c.args.change c.requires, ap mag (raised c)) })

pub returns : goal.returns
returns c = ap (λ u. nat_abs u % 257) (back c) ∙ sym (residue_by_sum 257 c.args.change (moved 257 c.args.change) (omega arith) (raised c))
