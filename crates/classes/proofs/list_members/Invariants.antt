-- `classes::list_members` meets its contract: the members below a stand in front, and the next a is written behind them; where there is one
-- class, every a is one. Assumes nothing.
use Prim.Native.Nat.{◌-◌, ◌≤◌}
use lib.ListN.{length}
use Rattle.classes.proofs.Members.{Listing}
use Rattle.classes.proofs.list_members.Given as goal

abbrev pub invariant-loop-a : goal.invariant-loop-a
invariant-loop-a l = (l.a ≤ l.places) × Listing l.dead l.c (length l.initial.out) l.a l.x l.out

abbrev pub decreases-loop-a : goal.decreases-loop-a
decreases-loop-a l = l.places - l.a
