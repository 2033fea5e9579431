-- `picking::pick_rows` meets its contract. Assumes nothing.
use mathlib.Core.Path.{◌≡◌}
use Prim.Native.Nat.{◌+◌, ◌*◌, ◌≤◌}
use native.Mathlib.Omega.{arith}
use lib.ListN.{length}
use Rattle.lists.proofs.Others.{rising_fits}
use Rattle.shape.specs.Shape.{most_nodes}
use Rattle.rows.specs.Rows.{most_places}
use Rattle.tables.specs.Tables.{table_size}
use Rattle.tables.proofs.Tables.{row_room}
use Rattle.picking.proofs.Picking.{picks_more}
use Rattle.picking.proofs.pick_rows.Goals as goal
use Rattle.picking.proofs.pick_rows.Goals.{In-loop-j}

-- there are few listed nodes, and the row lies in the table
few : (c : In-loop-j) → c.loop-j.j + 1 ≤ most_nodes
few c = omega (arith, c.loop-j-test.true, rising_fits c.args.n c.args.list.now c.requires.2, c.requires.0)

room : (c : In-loop-j) → let a = c.args in (a.i * length a.list.now + c.loop-j.j) * most_places + most_places ≤ table_size
room c =
    row_room c.args.n (length c.args.list.now) c.args.i c.loop-j.j most_places c.requires.0 (rising_fits c.args.n c.args.list.now c.requires.2) c.requires.6 c.loop-j-test.true (omega arith)

pub overflow_mul-j : goal.overflow_mul-j
overflow_mul-j c = omega (arith, few c)

pub overflow_mul-i-in-loop-j : goal.overflow_mul-i-in-loop-j
overflow_mul-i-in-loop-j c = omega (arith, room c)

pub pick_row-requires : goal.pick_row-requires
pick_row-requires c =
    let l = c.loop-j in
    let r = room (goal.at.pick_row-requires c).In-loop-j in
    (omega (arith, few (goal.at.pick_row-requires c).In-loop-j, c.requires.3, c.requires.1), λ t h. omega (arith, r, c.requires.5, c.requires.4.at (l.j * 64 + t)), omega (arith, r, l.auto.table, c.requires.7, c.requires.1))

pub loop-j-preserved : goal.loop-j-preserved
loop-j-preserved c =
    let l = c.loop-j in
    λ m a marked picks last w v h u. picks_more _ _ _ _ _ _ _ _ _ w _ v _ h u l.j _ _ _ c.requires.1 c.loop-j-test.true (l.invariant m a marked picks last w v h u) c.pick_row.ensures

pub returns : goal.returns
returns c =
    let l = c.loop-j in
    let e : l.j ≡ length c.args.list.now = omega arith in
    (l.auto.table, λ m a marked picks last w v h u. rw (← e) (l.invariant m a marked picks last w v h u))
