-- `transfers::write_plan` meets its contract: the first line, the transfers and the total, one behind the other. Assumes nothing.
use mathlib.Core.Path.{◌≡◌, ap}
use Prim.Native.Nat.{◌+◌, ◌/◌}
use native.Mathlib.Omega.{arith}
use lib.ListN.{length}
use Rattle.classes.specs.Classes.{message_size}
use Rattle.transfers.proofs.Room.{senders_high, count_high, total_high, few_listed, first_room, transfers_room, total_room_lem, plan_put}
use Rattle.transfers.proofs.write_plan.Goals as goal
use Rattle.transfers.proofs.write_plan.Goals.{After-size}

-- the symbols of a message
sized : (c : After-size) →
    let a = c.args in
    c.size.result / (length a.dead.now + 1) ≡ message_size a.s a.dead.now
unfolding message_size
sized c = ap (λ z. z / (length c.args.dead.now + 1)) c.size.ensures

pub size-requires : goal.size-requires
size-requires c = c.requires.0.shape

pub write_line-at-requires : goal.write_line-at-requires
write_line-at-requires c =
    let z = (goal.at.write_line-at-requires c).After-size in
    first_room _ _ _ z.requires.0 _ (sized z) z.args.text.now z.requires.1

pub write_transfers-behind-requires : goal.write_transfers-behind-requires
write_transfers-behind-requires c =
    let z = (goal.at.write_transfers-behind-requires c).After-size in
    (few_listed _ _ _ z.requires.0, transfers_room _ _ _ z.requires.0 _ (sized z) _ z.requires.1 _ _ c.write_line-at.ensures)

pub overflow_add-last : goal.overflow_add-last
overflow_add-last c = omega (arith, senders_high _ _ _ c.requires.0)

pub overflow_mul-last : goal.overflow_mul-last
overflow_mul-last c = omega (arith, count_high _ _ _ c.requires.0)

pub overflow_mul-last-2 : goal.overflow_mul-last-2
overflow_mul-last-2 c = rw (sized (goal.at.overflow_mul-last-2 c).After-size) (omega (arith, total_high _ _ _ c.requires.0))

pub write_line-requires : goal.write_line-requires
write_line-requires c =
    let z = (goal.at.write_line-requires c).After-size in
    total_room_lem _ _ _ z.requires.0 _ (sized z) _ z.requires.1 _ _ c.write_line-at.ensures _ _ c.write_transfers-behind.ensures

pub returns : goal.returns
returns c =
    let z = (goal.at.returns c).After-size in
    plan_put _ _ _ z.requires.0 _ (sized z) _ z.requires.1 _ _ c.write_line-at.ensures _ _ c.write_transfers-behind.ensures c.write_line.ensures
