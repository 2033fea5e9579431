-- `stretches::past_end` meets its contract. Assumes nothing.
use Rattle.std.proofs.Common.{◌≡◌, ℕ, ◌<◌, below_more, length, arith}
use Rattle.stretches.specs.Stretches.{stretch_count}
use Rattle.stretches.proofs.Judging.{EndWithin, none_past, one_past}
use Rattle.stretches.proofs.Pairs.{IsStretch, pair_turn, pair_end, pairs_more}
use Rattle.stretches.proofs.past_end.Goals as goal
use Rattle.stretches.proofs.past_end.Goals.{In-Some, In-None}

-- the pair is the stretch of its number
turn : (c : In-Some) → IsStretch c.args.stretches.now (length c.loop-pair.yielded) c.in-Some.pair.now
turn c = let l = c.loop-pair in pair_turn c.args.stretches.now c.into_iter-pair-iterator.result l.pair-iterator c.next.new.self _ l.yielded (cc) (cc) l.yielded_by _ c.in-Some.is c.next.ensures.steps

-- at the end all have come
all_come : (c : In-None) → length c.loop-pair.yielded ≡ stretch_count c.args.stretches.now
all_come c = let l = c.loop-pair in pair_end c.args.stretches.now c.into_iter-pair-iterator.result l.pair-iterator c.next.new.self _ l.yielded (cc) (cc) l.yielded_by c.in-None.is c.next.ensures.steps

pub returns-then-len-start : goal.returns-then-len-start
returns-then-len-start c =
    let t = turn (goal.at.returns-then-len-start c).In-Some in
    one_past _ _ _ t.0 (omega (arith, t, c.if-len-start.true))

pub returns-then-len-start-2 : goal.returns-then-len-start-2
returns-then-len-start-2 c =
    let t = turn (goal.at.returns-then-len-start-2 c).In-Some in
    one_past _ _ _ t.0 (omega (arith, t, c.if-len-start-2.true, c.if-len-start.false))

pub loop-pair-preserved : goal.loop-pair-preserved
loop-pair-preserved c =
    let l = c.loop-pair in
    let t = turn (goal.at.loop-pair-preserved c).In-Some in
    pairs_more (λ n. (m : ℕ) → m < n → EndWithin c.args.stretches.now c.args.len m) l.yielded _
    (below_more _ _ l.invariant (omega (arith, t, c.if-len-start-2.false, c.if-len-start.false)))

pub returns : goal.returns
returns c = none_past _ _ (λ m h. c.loop-pair.invariant m (omega (arith, all_come c)))
