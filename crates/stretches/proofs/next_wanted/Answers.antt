-- `stretches::next_wanted` meets its contract. Assumes nothing.
use Rattle.std.proofs.Common.{◌≡◌, length, arith}
use Rattle.lists.proofs.Tests.{either}
use Rattle.stretches.specs.Stretches.{stretch_count}
use Rattle.stretches.proofs.Runs.{NextUpto, next_none, next_skip, next_more, next_all}
use Rattle.stretches.proofs.Pairs.{IsStretch, pair_turn, pair_end, pairs_more}
use Rattle.stretches.proofs.next_wanted.Goals as goal
use Rattle.stretches.proofs.next_wanted.Goals.{In-Some, In-None}

-- the pair is the stretch of its number
turn : (c : In-Some) → IsStretch c.args.stretches.now (length c.loop-pair.yielded) c.in-Some.pair.now
turn c = let l = c.loop-pair in pair_turn c.args.stretches.now c.into_iter-pair-iterator.result l.pair-iterator c.next.new.self _ l.yielded (cc) (cc) l.yielded_by _ c.in-Some.is c.next.ensures.steps

-- at the end all have come
all_come : (c : In-None) → length c.loop-pair.yielded ≡ stretch_count c.args.stretches.now
all_come c = let l = c.loop-pair in pair_end c.args.stretches.now c.into_iter-pair-iterator.result l.pair-iterator c.next.new.self _ l.yielded (cc) (cc) l.yielded_by c.in-None.is c.next.ensures.steps

pub loop-pair-init : goal.loop-pair-init
loop-pair-init c = next_none _ _ _ _ _

pub overflow_add-stop : goal.overflow_add-stop
overflow_add-stop c =
    let t = turn (goal.at.overflow_add-stop c).In-Some in
    omega (arith, t, c.requires.0.ends _ t.0, c.requires.1)

pub loop-pair-preserved-then-stop-from : goal.loop-pair-preserved-then-stop-from
loop-pair-preserved-then-stop-from c =
    let l = c.loop-pair in
    let a = c.args in
    let t = turn (goal.at.loop-pair-preserved-then-stop-from c).In-Some in
    pairs_more (NextUpto a.stretches.now a.modulus a.rest a.from a.most l.found) l.yielded _
    (next_skip a.stretches.now a.modulus a.rest a.from a.most l.found (length l.yielded) l.invariant (rw (t.1, t.2) (either _ _ c.if-stop-from.true)))

pub leaving-b-requires : goal.leaving-b-requires
leaving-b-requires c =
    let p = c.requires in
    let t = turn (goal.at.leaving-b-requires c).In-Some in
    (p.2, p.3, omega (arith, t, p.0.ends _ t.0, p.1, p.4, c.max.ensures))

pub loop-pair-preserved : goal.loop-pair-preserved
loop-pair-preserved c =
    let l = c.loop-pair in
    let a = c.args in
    let t = turn (goal.at.loop-pair-preserved c).In-Some in
    let e = c.max.ensures in
    pairs_more (NextUpto a.stretches.now a.modulus a.rest a.from a.most c.earlier-found.result) l.yielded _
    (next_more a.stretches.now a.modulus a.rest a.from a.most l.found (length l.yielded) c.max.result c.leaving-b.result c.earlier-found.result l.invariant c.leaving-b.ensures
    (omega (arith, e)) (omega (arith, e, t)) (λ z g h. omega (arith, e, t)) t.0 (rw t.1 (rw t.2 c.earlier-found.ensures)))

pub returns : goal.returns
returns c = next_all _ _ _ _ _ _ _ (all_come c) c.loop-pair.invariant
