-- `finishing::send_sum` meets its contract: the messages passed have their symbol, and nothing else has changed. Assumes nothing.
use mathlib.Core.Path.{◌≡◌, ap}
use Prim.Native.Nat.{◌+◌, ◌-◌, ◌*◌, ◌<◌}
use native.Mathlib.Omega.{arith}
use lib.ListN.{length, get_or}
use Rattle.lists.specs.Lists.{element}
use Rattle.lists.proofs.Parts.{row_within}
use Rattle.shape.specs.Shape.{most_nodes}
use Rattle.classes.specs.Classes.{node, message_size}
use Rattle.classes.proofs.Layouts.{bounded, node_high}
use Rattle.classes.proofs.Placing.{other_is}
use Rattle.finishing.proofs.Answers.{sent_none, sent_more}
use Rattle.finishing.proofs.send_sum.Goals as goal
use Rattle.finishing.proofs.send_sum.Goals.{After-other_rank, In-loop-j}

pub loop-j-init : goal.loop-j-init
loop-j-init c = (omega arith, sent_none _ _ _ _ _ _)

pub other_rank-requires : goal.other_rank-requires
other_rank-requires c = omega (arith, c.loop-j-test.true, (bounded c.requires.0).dead_high)

-- the rank of message j
rank : (c : After-other_rank) → c.other_rank.result < length c.args.dead.now
rank c = omega (arith, c.other_rank.ensures, (other_is (length c.args.dead.now) c.args.u c.loop-j.j c.requires.1 c.loop-j-test.true).0)

pub offset_bounds-dead-other_rank : goal.offset_bounds-dead-other_rank
offset_bounds-dead-other_rank c = omega (arith, rank c, (bounded c.requires.0).dead_high)

pub bounds-dead-other_rank : goal.bounds-dead-other_rank
bounds-dead-other_rank c = rank (goal.at.bounds-dead-other_rank c).After-other_rank

-- its node
low : (c : After-other_rank) → get_or c.args.dead.now c.other_rank.result 0 < most_nodes
unfolding node
low c = (node_high c.requires.0 c.other_rank.result (rank c)).1

pub offset_bounds-column-node : goal.offset_bounds-column-node
offset_bounds-column-node c = omega (arith, low (goal.at.offset_bounds-column-node c).After-other_rank)

pub bounds-column-node : goal.bounds-column-node
bounds-column-node c = omega (arith, low (goal.at.bounds-column-node c).After-other_rank, c.requires.3)

pub overflow_cast-out : goal.overflow_cast-out
overflow_cast-out c = omega (arith, c.requires.4.at (get_or c.args.dead.now c.other_rank.result 0))

-- symbol x of message j lies in the buffer
room : (c : In-loop-j) → c.loop-j.j * c.args.g.share + c.args.x < length c.args.out.now
room c =
    let M = message_size c.args.g.shape c.args.dead.now in
    rw c.requires.0.share_is (omega (arith, row_within (length c.args.dead.now - 1) M c.loop-j.j c.loop-j-test.true, c.requires.2, c.requires.5))

pub overflow_mul-out : goal.overflow_mul-out
overflow_mul-out c = omega (arith, room (goal.at.overflow_mul-out c).In-loop-j)

pub overflow_add-out : goal.overflow_add-out
overflow_add-out c = omega (arith, room (goal.at.overflow_add-out c).In-loop-j)

pub offset_bounds-out-j : goal.offset_bounds-out-j
offset_bounds-out-j c = omega (arith, room (goal.at.offset_bounds-out-j c).In-loop-j)

pub bounds-out-j : goal.bounds-out-j
bounds-out-j c = omega (arith, room (goal.at.bounds-out-j c).In-loop-j, c.loop-j.invariant.1.long)

pub loop-j-preserved : goal.loop-j-preserved
unfolding node
loop-j-preserved c =
    let a = c.args in
    let l = c.loop-j in (
      omega (arith, c.loop-j-test.true),
      sent_more _ _ _ _ _ _ l.j l.out _ l.invariant.1 (rw c.requires.0.share_is c.requires.2) (room (goal.at.loop-j-preserved c).In-loop-j) (ap (λ v. element a.column (get_or a.dead.now v 0)) c.other_rank.ensures),
    )

pub shape_of-out : goal.shape_of-out
shape_of-out c = c.loop-j.invariant.1.long

pub returns : goal.returns
returns c =
    let l = c.loop-j in
    let e : l.j ≡ length c.args.dead.now - 1 = omega (arith, c.loop-j-test.false, l.invariant.0) in
    rw (← e, ← c.requires.0.share_is) l.invariant.1
