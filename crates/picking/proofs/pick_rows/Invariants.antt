-- `picking::pick_rows` meets its contract. Assumes nothing.
use Rattle.std.proofs.Common.{◌≡◌, Bool, false, List, ℕ, ◌+◌, ◌<◌, length}
use Rattle.lists.specs.Lists.{member}
use Rattle.tables.specs.Tables.{NodeRows}
use Rattle.picking.specs.Picking.{LookedUp, Pickable}
use Rattle.picking.proofs.pick_rows.Given as goal

abbrev pub invariant-loop-j : goal.invariant-loop-j
invariant-loop-j l =
    (m a : ℕ) (marked : List Bool) (picks : List ℕ) (last : ℕ) → Pickable l.n m a l.run l.list marked picks last l.source → LookedUp a l.run l.list picks last (length l.list) l.looked → l.i < m
    → member l.i l.list ≡ false → NodeRows l.n (◌+◌ a) l.run l.list l.i l.j l.initial.table l.table
