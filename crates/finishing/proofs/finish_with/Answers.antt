-- `finishing::finish_with` meets its contract: the sums passed are finished. Assumes nothing.
use mathlib.Core.Path.{◌≡◌, sym, ap, ◌∙◌}
use mathlib.Core.Bool.{true}
use Prim.Native.Nat.{◌+◌, ◌-◌, ◌%◌, ◌≤◌, ◌<◌, ◌*◌}
use native.Mathlib.Numerals.{add-one}
use native.Mathlib.Omega.{arith}
use lib.ListN.{length, get_or, take, length-take}
use Rattle.lists.specs.Lists.{others, rising}
use Rattle.lists.proofs.Members.{rising_more, rises_rising}
use Rattle.lists.proofs.Others.{others_length, others_rise}
use Rattle.lists.proofs.Parts.{row_within}
use Rattle.shape.proofs.Accepted.{shape_accepted}
use Rattle.classes.specs.Classes.{node, spot_at, message_size}
use Rattle.classes.proofs.Layouts.{bounded, node_high}
use Rattle.arrival.specs.Sums.{kept_size}
use Rattle.arrival.proofs.Members.{cycled}
use Rattle.finishing.proofs.Finished.{finished_more, finished_all}
use Rattle.finishing.proofs.finish_with.Goals as goal
use Rattle.finishing.proofs.finish_with.Goals.{After-others-unknown, In-loop-x, Start}

pub overflow_sub-r : goal.overflow_sub-r
overflow_sub-r c = omega (arith, (shape_accepted c.args.g.shape c.requires.0.ready.shaped).k_high)

pub overflow_add-n : goal.overflow_add-n
overflow_add-n c = omega (arith, (bounded c.requires.0.ready).n_high)

-- the helpers among the n + 1 entries
more : (c : Start) → rising 0 (c.args.g.shape.n + 1) c.args.helpers.now ≡ true
more c = rw (add-one c.args.g.shape.n) (rising_more c.args.g.shape.n c.args.helpers.now c.requires.0.rises)

pub others-unknown-requires : goal.others-unknown-requires
others-unknown-requires c = (omega (arith, (bounded c.requires.0.ready).n_high), more (goal.at.others-unknown-requires c).Start)

-- the unknown entries: as many as there are equations
unknown : (c : After-others-unknown) →
    let s = c.args.g.shape in
    take (s.n - s.k) c.others-unknown.result ≡ others (s.n + 1) c.args.helpers.now
unknown c =
    let s = c.args.g.shape in
    ap (λ z. take z c.others-unknown.result) (let e : s.n - s.k ≡ s.n + 1 - length c.args.helpers.now = omega (arith, c.requires.0.count) in e) ∙ c.others-unknown.ensures

count : (c : Start) → length (others (c.args.g.shape.n + 1) c.args.helpers.now) ≡ c.args.g.shape.n - c.args.g.shape.k
count c = omega (arith, others_length (c.args.g.shape.n + 1) c.args.helpers.now (more c), c.requires.0.count)

-- sum x is one of the message's
few : (c : In-loop-x) → c.loop-x.x < message_size c.args.g.shape c.args.dead.now
few c = omega (arith, c.loop-x-test.true, c.requires.0.ready.share_is)

-- the member of sum x, which the table has
member : (c : In-loop-x) →
    let a = c.args in
    (c.loop-x.x % a.g.members < a.g.members) × (c.loop-x.x % a.g.members < length c.list_members.new.out)
    × (get_or c.list_members.new.out (c.loop-x.x % a.g.members) 0 ≡ (spot_at a.g.shape a.dead.now a.u c.loop-x.x).a)
member c =
    cycled c.requires.0.ready c.args.u c.list_members.new.out (rw c.rank_class.ensures at c.list_members.ensures)
    (omega (arith, c.requires.1, c.list_members.auto.out)) c.loop-x.x (few c)

pub nonzero_rem-x : goal.nonzero_rem-x
nonzero_rem-x c = omega (arith, (member (goal.at.nonzero_rem-x c).In-loop-x).0)

pub bounds-class-x : goal.bounds-class-x
bounds-class-x c = (member (goal.at.bounds-class-x c).In-loop-x).1

pub slice_bounds-unknown-end : goal.slice_bounds-unknown-end
slice_bounds-unknown-end c =
    let s = c.args.g.shape in
    omega (arith, ap length (unknown (goal.at.slice_bounds-unknown-end c).After-others-unknown), count (goal.at.slice_bounds-unknown-end c).Start, length-take (s.n - s.k) c.others-unknown.result)

pub slice_bounds-answer-end : goal.slice_bounds-answer-end
slice_bounds-answer-end c = sym (ap length (unknown (goal.at.slice_bounds-answer-end c).After-others-unknown) ∙ count (goal.at.slice_bounds-answer-end c).Start)

-- the r sums of a symbol are among those kept
room : (c : In-loop-x) →
    let s = c.args.g.shape in
    c.loop-x.x * (s.n - s.k) + (s.n - s.k) ≤ length c.args.sums.now
unfolding kept_size
room c =
    let s = c.args.g.shape in
    omega (arith, row_within (message_size s c.args.dead.now) (s.n - s.k) c.loop-x.x (few c), c.requires.0.sums_long)

pub overflow_mul-x : goal.overflow_mul-x
overflow_mul-x c = omega (arith, room (goal.at.overflow_mul-x c).In-loop-x)

pub answer-column-requires : goal.answer-column-requires
unfolding node
answer-column-requires c =
    let s = c.args.g.shape in
    let R = c.requires.0.ready in
    rw (unknown (goal.at.answer-column-requires c).After-others-unknown)
    (record {
      few = (bounded R).n_high;
      node_below = (node_high R c.args.u c.requires.0.rank).0;
      up = rises_rising 0 (s.n + 1) _ (others_rise (s.n + 1) c.args.helpers.now (more (goal.at.answer-column-requires c).Start));
      kept = omega (arith, count (goal.at.answer-column-requires c).Start, room (goal.at.answer-column-requires c).In-loop-x);
    })

pub put_pair-requires : goal.put_pair-requires
unfolding node
put_pair-requires c =
    let R = c.requires.0.ready in
    let w = c.loop-x.invariant.1 in (
      omega (arith, (node_high R c.args.u c.requires.0.rank).0),
      (bounded R).n_high,
      c.answer-column.ensures.long,
      c.answer-column.ensures.low,
      omega (arith, w.pairs_same, c.requires.0.pairs_long, (few (goal.at.put_pair-requires c).In-loop-x)),
    )

pub loop-x-preserved : goal.loop-x-preserved
unfolding node
loop-x-preserved c =
    let l = c.loop-x in (
      omega (arith, c.loop-x-test.true),
      finished_more c.requires.0 l.x c.answer-column.result l.pairs l.out _ _ (few (goal.at.loop-x-preserved c).In-loop-x) l.invariant.1 (rw (unknown (goal.at.loop-x-preserved c).After-others-unknown, c.from-a.ensures, (member (goal.at.loop-x-preserved c).In-loop-x).2) at c.answer-column.ensures)
          c.put_pair.ensures c.send_sum.ensures,
    )

pub returns : goal.returns
returns c =
    let l = c.loop-x in
    let e : l.x ≡ message_size c.args.g.shape c.args.dead.now = omega (arith, c.loop-x-test.false, l.invariant.0, c.requires.0.ready.share_is) in
    finished_all c.requires.0 l.pairs l.out (rw (← e) l.invariant.1)
