-- `stretches::next_cut` meets its contract. Assumes nothing.
use Rattle.std.proofs.Common.{◌≡◌, length, arith}
use Rattle.stretches.specs.Stretches.{stretch_count}
use Rattle.stretches.proofs.Runs.{UncutUpto, uncut_none, uncut_more, uncut_all}
use Rattle.stretches.proofs.Pairs.{IsStretch, pair_turn, pair_end, pairs_more}
use Rattle.stretches.proofs.next_cut.Goals as goal
use Rattle.stretches.proofs.next_cut.Goals.{In-Some, In-None}

-- the pair is the stretch of its number
turn : (c : In-Some) → IsStretch c.args.stretches.now (length c.loop-pair.yielded) c.in-Some.pair.now
turn c = let l = c.loop-pair in pair_turn c.args.stretches.now c.into_iter-pair-iterator.result l.pair-iterator c.next.new.self _ l.yielded (cc) (cc) l.yielded_by _ c.in-Some.is c.next.ensures.steps

-- at the end all have come
all_come : (c : In-None) → length c.loop-pair.yielded ≡ stretch_count c.args.stretches.now
all_come c = let l = c.loop-pair in pair_end c.args.stretches.now c.into_iter-pair-iterator.result l.pair-iterator c.next.new.self _ l.yielded (cc) (cc) l.yielded_by c.in-None.is c.next.ensures.steps

pub loop-pair-init : goal.loop-pair-init
loop-pair-init c = uncut_none _ _ _ c.requires.1

pub overflow_add-stop : goal.overflow_add-stop
overflow_add-stop c =
    let t = turn (goal.at.overflow_add-stop c).In-Some in
    omega (arith, t, c.requires.0.ends _ t.0)

pub loop-pair-preserved : goal.loop-pair-preserved
loop-pair-preserved c =
    let l = c.loop-pair in
    let a = c.args in
    let t = turn (goal.at.loop-pair-preserved c).In-Some in
    pairs_more (UncutUpto a.stretches.now a.modulus a.at c.nearer-end.result) l.yielded _
    (uncut_more a.stretches.now a.modulus a.at l.end (length l.yielded) c.nearer.result c.nearer-end.result l.invariant (rw (t.1, t.2) c.nearer.ensures) (rw t.1 c.nearer-end.ensures))

pub returns : goal.returns
returns c = uncut_all _ _ _ _ _ (all_come c) c.loop-pair.invariant
