-- `stretches::place_row` meets its contract. Assumes nothing.
use Rattle.std.proofs.Common.{◌≡◌, true, refl, ap, ◌∙◌, ℕ, ◌+◌, ◌-◌, ◌*◌, ◌^◌, ◌<◌, ◌≤◌, length, get_or, arith}
use borrow.Author.Tests.{ltb-false, leb-false}
use Rattle.lists.proofs.Tests.{neither, either}
use Rattle.opening.specs.Steps.{Walked, OneOf}
use Rattle.opening.proofs.Walking.{walked_none, walked_skip, walked_on, walked_ends}
use Rattle.stretches.specs.Stretches.{stretch_count, stretch_start, stretch_length, bytes_before}
use Rattle.stretches.specs.Steps.{InStretch, byte_at}
use Rattle.stretches.proofs.Pairs.{IsStretch, pair_turn, pair_end, pairs_more}
use Rattle.stretches.proofs.Runs.{not_in}
use Rattle.stretches.proofs.Wanted.{before_none, before_more}
use Rattle.stretches.proofs.Judging.{before_small}
use Rattle.stretches.proofs.Walks.{AtStretch, stretch_walked, run_walked}
use Rattle.stretches.proofs.place_row.Goals as goal
use Rattle.stretches.proofs.place_row.Goals.{After-open_row, Else-b-start, In-Some, In-None}

-- the pair is the stretch of its number
turn : (c : In-Some) → IsStretch c.args.stretches.now (length c.loop-pair.yielded) c.in-Some.pair.now
turn c = let l = c.loop-pair in pair_turn c.args.stretches.now c.into_iter-pair-iterator.result l.pair-iterator c.next.new.self _ l.yielded (cc) (cc) l.yielded_by _ c.in-Some.is c.next.ensures.steps

-- at the end all have come
all_come : (c : In-None) → length c.loop-pair.yielded ≡ stretch_count c.args.stretches.now
all_come c = let l = c.loop-pair in pair_end c.args.stretches.now c.into_iter-pair-iterator.result l.pair-iterator c.next.new.self _ l.yielded (cc) (cc) l.yielded_by c.in-None.is c.next.ensures.steps

-- the stretch's end, and the bytes before it, are few
few : (c : In-Some) →
    let st = c.args.stretches.now in
    let m = length c.loop-pair.yielded in
    (stretch_start st m + stretch_length st m ≤ 2 ^ 32) × (c.loop-pair.at ≤ 64 * 2 ^ 32)
unfolding stretch_count
few c =
    let p = c.requires in
    let m = length c.loop-pair.yielded in
    let t = turn c in
    (p.0.ends _ t.0, omega (arith, t.0, c.loop-pair.invariant.0, before_small _ _ p.0 m (omega (arith, t.0)), p.0.few))

-- the stretch has the run
inside : (c : Else-b-start) → InStretch c.args.stretches.now c.args.b (length c.loop-pair.yielded)
inside c =
    let n = neither _ _ c.if-b-start.false in
    let t = turn (goal.at.Else-b-start c).In-Some in
    let p = c.in-Some.pair.now in
    let low : get_or p 0 0 ≤ c.args.b = ltb-false _ _ n.0 in
    let high : c.args.b < get_or p 0 0 + get_or p 1 0 = leb-false _ _ n.1 in
    (omega (arith, t, low), omega (arith, t, high))

-- what was done with the run in the stretch
walked : (c : After-open_row) →
    let a = c.args in
    (D : ℕ → ℕ) → ((t : ℕ) → t < length a.row.now → D (a.b + t) ≡ get_or a.row.now t 0)
    → Walked (λ e. D (byte_at a.stretches.now e)) a.len a.room (AtStretch a.stretches.now a.b (length a.row.now) (length c.loop-pair.yielded)) c.loop-pair.bytes c.open_row.new.transcript c.open_row.result
walked c D same =
    let a = c.args in
    let l = c.loop-pair in
    let t = turn (goal.at.After-open_row c).In-Some in
    stretch_walked a.stretches.now a.b (length a.row.now) c.requires.1 D a.len a.room (length l.yielded) a.row.now _ _ _ refl same t.0 (inside (goal.at.After-open_row c).Else-b-start) (rw (l.invariant.0, ← t.1) at c.open_row.ensures)

-- no byte more or less
kept : (c : After-open_row) → length c.open_row.new.transcript ≡ length c.args.bytes.now
kept c =
    let a = c.args in
    (walked c (λ y. get_or a.row.now (y - a.b) 0) (λ t h. ap (λ z. get_or a.row.now z 0) (let z : a.b + t - a.b ≡ t = omega arith in z))).long ∙ c.loop-pair.invariant.1

-- the bytes before the next stretch
next : (c : In-Some) → c.loop-pair.at + get_or c.in-Some.pair.now 1 0 ≡ bytes_before c.args.stretches.now (length c.loop-pair.yielded + 1)
next c = omega (arith, turn c, c.loop-pair.invariant.0, before_more c.args.stretches.now (length c.loop-pair.yielded))

pub loop-pair-init : goal.loop-pair-init
loop-pair-init c = (omega (arith, before_none c.args.stretches.now), refl, λ D same. walked_none _ _ _ _ _)

pub overflow_add-start : goal.overflow_add-start
overflow_add-start c = let i = (goal.at.overflow_add-start c).In-Some in omega (arith, few i, turn i)

pub overflow_add-at : goal.overflow_add-at
overflow_add-at c = let i = (goal.at.overflow_add-at c).In-Some in omega (arith, few i, turn i)

pub loop-pair-preserved-then-b-start : goal.loop-pair-preserved-then-b-start
loop-pair-preserved-then-b-start c =
    let l = c.loop-pair in
    let a = c.args in
    let i = (goal.at.loop-pair-preserved-then-b-start c).In-Some in
    let t = turn i in (
      pairs_more (λ n. l.at + get_or c.in-Some.pair.now 1 0 ≡ bytes_before a.stretches.now n) l.yielded _ (next i),
      l.invariant.1,
      λ D same.
          pairs_more (λ n. Walked (λ e. D (byte_at a.stretches.now e)) a.len a.room (OneOf n (AtStretch a.stretches.now a.b (length a.row.now))) a.bytes.now l.bytes true) l.yielded _
          (walked_skip _ _ _ _ _ (length l.yielded) _ (l.invariant.2 D same) (λ e (i, _). not_in a.stretches.now a.b (length l.yielded) (rw (t.1, t.2) (either _ _ c.if-b-start.true)) i)),
    )

pub overflow_add-at-in-loop-pair : goal.overflow_add-at-in-loop-pair
overflow_add-at-in-loop-pair c = omega (arith, few (goal.at.overflow_add-at-in-loop-pair c).In-Some, inside c)

pub overflow_sub-at : goal.overflow_sub-at
overflow_sub-at c = omega (arith, inside c, turn (goal.at.overflow_sub-at c).In-Some)

pub open_row-requires : goal.open_row-requires
open_row-requires c = let p = c.requires in (p.2, omega (arith, p.3, c.loop-pair.invariant.1))

pub shape_of-bytes-then-not-open_row : goal.shape_of-bytes-then-not-open_row
shape_of-bytes-then-not-open_row c = kept (goal.at.shape_of-bytes-then-not-open_row c).After-open_row

pub returns-then-not-open_row : goal.returns-then-not-open_row
returns-then-not-open_row c = λ D same.
    let a = c.args in
    let l = c.loop-pair in
    let t = turn (goal.at.returns-then-not-open_row c).In-Some in
    run_walked a.stretches.now a.b (length a.row.now) c.requires.1 (λ e. D (byte_at a.stretches.now e)) a.len a.room _ _ _ _ refl
    (walked_ends _ _ _ _ _ (length l.yielded) _ (l.invariant.2 D same) _ _ (walked (goal.at.returns-then-not-open_row c).After-open_row D same) (stretch_count a.stretches.now) t.0 c.if-not-open_row.true)

pub overflow_add-at-in-loop-pair-2 : goal.overflow_add-at-in-loop-pair-2
overflow_add-at-in-loop-pair-2 c = let i = (goal.at.overflow_add-at-in-loop-pair-2 c).In-Some in omega (arith, few i, turn i)

pub loop-pair-preserved : goal.loop-pair-preserved
loop-pair-preserved c =
    let l = c.loop-pair in
    let a = c.args in
    let o = (goal.at.loop-pair-preserved c).After-open_row in (
      pairs_more (λ n. l.at + get_or c.in-Some.pair.now 1 0 ≡ bytes_before a.stretches.now n) l.yielded _ (next (goal.at.loop-pair-preserved c).In-Some),
      kept o,
      λ D same.
          pairs_more (λ n. Walked (λ e. D (byte_at a.stretches.now e)) a.len a.room (OneOf n (AtStretch a.stretches.now a.b (length a.row.now))) a.bytes.now c.open_row.new.transcript true) l.yielded _
          (walked_on _ _ _ _ _ (length l.yielded) _ (l.invariant.2 D same) _ _ (walked o D same) c.if-not-open_row.false),
    )

pub shape_of-bytes : goal.shape_of-bytes
shape_of-bytes c = c.loop-pair.invariant.1

pub returns : goal.returns
returns c = λ D same.
    let a = c.args in
    run_walked a.stretches.now a.b (length a.row.now) c.requires.1 (λ e. D (byte_at a.stretches.now e)) a.len a.room (length c.loop-pair.yielded) _ _ _ (all_come c) (c.loop-pair.invariant.2 D same)
