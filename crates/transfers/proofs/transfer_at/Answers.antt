-- `transfers::transfer_at` meets its contract: a helper's transfer by receiver then sender, or an exchange behind them. Assumes nothing.
use mathlib.Core.Path.{sym}
use Prim.Native.Nat.{◌*◌, ◌-◌, ◌<◌}
use native.Mathlib.Nat.{mul-le-mul}
use native.Mathlib.Omega.{arith}
use lib.ListN.{length}
use Rattle.lists.proofs.Places.{Place, place_of}
use Rattle.classes.specs.Classes.{node}
use Rattle.transfers.specs.Plan.{helper_transfer, dead_transfer}
use Rattle.transfers.proofs.Transfers.{transfers_length, transfer_first, transfer_second, other_below}
use Rattle.transfers.proofs.transfer_at.Goals as goal
use Rattle.transfers.proofs.transfer_at.Goals.{After-other_rank, Else-e-messages, Then-e-messages}

-- a helper's transfer: its receiver's rank, and its sender's place in the list
to : (c : Then-e-messages) →
    let a = c.args in
    Place (length a.dead.now) (length a.helpers.now) a.e
to c = place_of _ _ _ (omega arith)

-- an exchange, numbered from 0 again
later : (c : Else-e-messages) →
    let a = c.args in
    a.e - length a.dead.now * length a.helpers.now < length a.dead.now * (length a.dead.now - 1)
later c = omega (arith, transfers_length c.args.dead.now c.args.helpers.now)

-- its receiver's rank, and its sender's place among the others
among : (c : Else-e-messages) →
    let a = c.args in
    Place (length a.dead.now) (length a.dead.now - 1) (a.e - length a.dead.now * length a.helpers.now)
among c = place_of _ _ _ (later c)

pub overflow_mul-messages : goal.overflow_mul-messages
overflow_mul-messages c = omega (arith, mul-le-mul c.requires.0.dead_few c.requires.0.helpers_few)

pub nonzero_rem-sender : goal.nonzero_rem-sender
nonzero_rem-sender c = omega (arith, to c)

pub offset_bounds-helpers-e : goal.offset_bounds-helpers-e
offset_bounds-helpers-e c = omega (arith, to c)

pub bounds-helpers-e : goal.bounds-helpers-e
bounds-helpers-e c = (to (goal.at.bounds-helpers-e c).Then-e-messages).place

pub nonzero_div-receiver : goal.nonzero_div-receiver
nonzero_div-receiver c = omega (arith, to (goal.at.nonzero_div-receiver c).Then-e-messages)

pub offset_bounds-dead-e : goal.offset_bounds-dead-e
offset_bounds-dead-e c = omega (arith, to (goal.at.offset_bounds-dead-e c).Then-e-messages)

pub bounds-dead-e : goal.bounds-dead-e
bounds-dead-e c = (to (goal.at.bounds-dead-e c).Then-e-messages).row

pub returns-then-e-messages : goal.returns-then-e-messages
unfolding helper_transfer node
returns-then-e-messages c = sym (transfer_first _ _ _ _ (omega arith))

pub overflow_sub-others : goal.overflow_sub-others
overflow_sub-others c = omega (arith, among c)

pub nonzero_div-u : goal.nonzero_div-u
nonzero_div-u c = omega (arith, among c)

pub nonzero_rem-x : goal.nonzero_rem-x
nonzero_rem-x c = omega (arith, among c)

pub other_rank-requires : goal.other_rank-requires
other_rank-requires c = omega (arith, among c)

-- the sender's rank
sender : (c : After-other_rank) → c.other_rank.result < length c.args.dead.now
sender c = rw c.other_rank.ensures (other_below _ _ _ (among (goal.at.After-other_rank c).Else-e-messages).place)

pub offset_bounds-dead-other_rank : goal.offset_bounds-dead-other_rank
offset_bounds-dead-other_rank c = omega (arith, sender c)

pub bounds-dead-other_rank : goal.bounds-dead-other_rank
bounds-dead-other_rank c = sender (goal.at.bounds-dead-other_rank c).After-other_rank

pub offset_bounds-dead-u : goal.offset_bounds-dead-u
offset_bounds-dead-u c = omega (arith, among (goal.at.offset_bounds-dead-u c).Else-e-messages)

pub bounds-dead-u : goal.bounds-dead-u
bounds-dead-u c = (among (goal.at.bounds-dead-u c).Else-e-messages).row

pub returns : goal.returns
unfolding dead_transfer node
returns c =
    rw c.other_rank.ensures (sym (transfer_second _ _ _ _ _ (omega arith) (later (goal.at.returns c).Else-e-messages)))
