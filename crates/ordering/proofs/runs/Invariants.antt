-- `ordering::runs` meets its contract: each transfer so far may follow those before it, and the table has what they have sent. Assumes nothing.
use mathlib.Core.Path.{◌≡◌}
use mathlib.Core.Bool.{true}
use Prim.Native.Nat.{ℕ, ◌-◌, ◌≤◌, ◌<◌}
use lib.ListN.{take}
use Rattle.ordering.specs.Ordering.{pairs, at}
use Rattle.ordering.specs.Following.{by_list, may_follow, Sent}
use Rattle.ordering.proofs.runs.Given as goal

abbrev pub invariant-loop-x : goal.invariant-loop-x
invariant-loop-x l =
    (l.x ≤ l.count) × Sent (take l.x (pairs l.numbers)) l.sent
    × ((y : ℕ) → y < l.x → may_follow l.dead l.helpers (by_list (take y (pairs l.numbers))) (at (pairs l.numbers) y) ≡ true)

abbrev pub decreases-loop-x : goal.decreases-loop-x
decreases-loop-x l = l.count - l.x
