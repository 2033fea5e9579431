-- `hearing::add_with` meets its contract: the sums of the symbols passed have them added, the others are as they were. Assumes nothing.
use mathlib.Core.Path.{◌≡◌}
use Prim.Native.Nat.{◌*◌, ◌%◌, ◌≤◌}
use lib.ListN.{length}
use Rattle.code.specs.Code.{narrow}
use Rattle.rows.specs.Rows.{Stored}
use Rattle.arrival.specs.Sums.{added_at}
use Rattle.hearing.proofs.add_with.Given as goal

abbrev pub invariant-loop-x : goal.invariant-loop-x
invariant-loop-x l = (l.x ≤ length l.message) × (l.j ≡ l.x % l.g.members) × Stored 0 (l.x * l.r) (added_at narrow l.g.shape l.dead l.u l.helper l.message l.initial.sums) l.initial.sums l.sums
