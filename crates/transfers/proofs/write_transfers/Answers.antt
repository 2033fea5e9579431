-- `transfers::write_transfers` meets its contract: the lines of the transfers from number e on are still to be written, at the place. Assumes nothing.
use mathlib.Core.Path.{◌≡◌}
use Prim.Native.Nat.{◌+◌, ◌*◌, ◌-◌, ◌≤◌}
use native.Mathlib.Nat.{mul-le-mul}
use native.Mathlib.Omega.{arith}
use lib.ListN.{length}
use Rattle.shape.specs.Shape.{most_nodes}
use Rattle.transfers.specs.Plan.{transfers, no_transfer, transfer_line}
use Rattle.transfers.proofs.Transfers.{transfers_length}
use Rattle.transfers.proofs.Lines.{lines_start, lines_room, lines_step, lines_done}
use Rattle.transfers.proofs.write_transfers.Goals as goal
use Rattle.transfers.proofs.write_transfers.Goals.{Start}

-- as many turns as transfers
turns : (c : Start) →
    let a = c.args in
    length a.dead.now * (length a.helpers.now + (length a.dead.now - 1)) ≡ length (transfers a.dead.now a.helpers.now)
turns c = omega (arith, c.requires.0.some, transfers_length c.args.dead.now c.args.helpers.now)

pub overflow_sub-count : goal.overflow_sub-count
overflow_sub-count c = c.requires.0.some

-- they are few
bounded : (c : Start) →
    let a = c.args in
    length a.dead.now * (length a.helpers.now + (length a.dead.now - 1)) ≤ most_nodes * (most_nodes + most_nodes)
bounded c = let f = c.requires.0 in mul-le-mul {m₂ = most_nodes + most_nodes} f.dead_few (omega (arith, f.dead_few, f.helpers_few))

pub overflow_mul-count : goal.overflow_mul-count
overflow_mul-count c = omega (arith, bounded (goal.at.overflow_mul-count c).Start)

pub loop-e-init : goal.loop-e-init
loop-e-init c = lines_start _ _ _ _

pub transfer_at-t-requires : goal.transfer_at-t-requires
transfer_at-t-requires c = let s = (goal.at.transfer_at-t-requires c).Start in (s.requires.0, omega (arith, turns s))

pub write_line-place-requires : goal.write_line-place-requires
unfolding transfer_line
write_line-place-requires c =
    let s = (goal.at.write_line-place-requires c).Start in
    rw c.transfer_at-t.ensures (lines_room _ no_transfer _ _ _ c.loop-e.e _ _ c.loop-e.invariant (omega (arith, turns s)) s.requires.1)

pub loop-e-preserved : goal.loop-e-preserved
unfolding transfer_line
loop-e-preserved c =
    let s = (goal.at.loop-e-preserved c).Start in
    let w = rw c.transfer_at-t.ensures at c.write_line-place.ensures in
    lines_step _ no_transfer _ _ _ c.loop-e.e _ _ c.loop-e.invariant _ _ (omega (arith, turns s)) w

pub shape_of-text : goal.shape_of-text
shape_of-text c = c.loop-e.invariant.long

pub returns : goal.returns
returns c =
    let s = (goal.at.returns c).Start in
    lines_done _ no_transfer _ _ _ c.loop-e.e _ _ c.loop-e.invariant (omega (arith, turns s))
