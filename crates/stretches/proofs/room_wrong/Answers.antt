-- `stretches::room_wrong` meets its contract. Assumes nothing.
use Rattle.std.proofs.Common.{◌≡◌, ◌+◌, ◌-◌, length, get_or, arith}
use Rattle.stretches.specs.Stretches.{stretch_count, bytes_before}
use Rattle.stretches.proofs.Judging.{room_more, room_short, room_end}
use Rattle.stretches.proofs.Wanted.{before_none}
use Rattle.stretches.proofs.Pairs.{IsStretch, pair_turn, pair_end, pairs_more}
use Rattle.stretches.proofs.room_wrong.Goals as goal
use Rattle.stretches.proofs.room_wrong.Goals.{In-Some, In-None}

-- the pair is the stretch of its number
turn : (c : In-Some) → IsStretch c.args.stretches.now (length c.loop-pair.yielded) c.in-Some.pair.now
turn c = let l = c.loop-pair in pair_turn c.args.stretches.now c.into_iter-pair-iterator.result l.pair-iterator c.next.new.self _ l.yielded (cc) (cc) l.yielded_by _ c.in-Some.is c.next.ensures.steps

-- at the end all have come
all_come : (c : In-None) → length c.loop-pair.yielded ≡ stretch_count c.args.stretches.now
all_come c = let l = c.loop-pair in pair_end c.args.stretches.now c.into_iter-pair-iterator.result l.pair-iterator c.next.new.self _ l.yielded (cc) (cc) l.yielded_by c.in-None.is c.next.ensures.steps

pub loop-pair-init : goal.loop-pair-init
loop-pair-init c = omega (arith, before_none c.args.stretches.now)

pub returns-then-left-long : goal.returns-then-left-long
returns-then-left-long c =
    let t = turn (goal.at.returns-then-left-long c).In-Some in
    room_short _ _ _ _ c.loop-pair.invariant t.0 (omega (arith, t, c.if-left-long.true))

pub loop-pair-preserved : goal.loop-pair-preserved
loop-pair-preserved c =
    let l = c.loop-pair in
    let a = c.args in
    let t = turn (goal.at.loop-pair-preserved c).In-Some in
    let e = room_more a.stretches.now a.room l.left _ l.invariant (omega (arith, t, c.if-left-long.false)) in
    pairs_more (λ n. l.left - get_or c.in-Some.pair.now 1 0 + bytes_before a.stretches.now n ≡ a.room) l.yielded _ (omega (arith, e, t))

pub returns : goal.returns
returns c = room_end _ _ _ _ c.loop-pair.invariant (all_come c)
