-- `checking::first_high` meets its contract: no data symbol before this one is above 255. Assumes nothing.
use Prim.Native.Nat.{◌≤◌}
use lib.ListN.{length}
use Rattle.checking.proofs.Data.{LowBelow}
use Rattle.checking.proofs.first_high.Given as goal

abbrev pub invariant-loop-e : goal.invariant-loop-e
invariant-loop-e l = (l.e ≤ length l.data) × LowBelow l.data l.e
