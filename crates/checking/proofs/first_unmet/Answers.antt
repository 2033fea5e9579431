-- `checking::first_unmet` meets its contract: at each level of the loops every equation before this one is met. Assumes nothing.
use mathlib.Core.Path.{◌≡◌, refl, sym, ap, ◌∙◌}
use Prim.Native.Nat.{◌≤◌, ◌<◌, ◌+◌, ◌-◌, ◌*◌, ◌^◌}
use native.Mathlib.Omega.{arith}
use borrow.Author.Rules.{rules}
use lib.Arith.{digits_lt}
use lib.ListN.{length}
use lib.Seq.{length-take-le}
use Rattle.lists.specs.Lists.{element}
use Rattle.shape.specs.Shape.{most_nodes, size}
use Rattle.shape.proofs.Accepted.{most_size}
use Rattle.code.specs.Code.{narrow}
use Rattle.code.specs.Archive.{equation}
use Rattle.code.proofs.Accepted.{Checkable, check_accepted}
use Rattle.checking.proofs.Gathering.{gathered_equation}
use Rattle.checking.proofs.Checking.{met_more, met_skip, sound_when, unmet_when}
use Rattle.checking.proofs.first_unmet.Goals as goal
use Rattle.checking.proofs.first_unmet.Goals.{After-gathered-column, In-loop-a, In-loop-t, In-loop-t-unread, Start}

-- what is known of the input, at the start and inside the second loop
able : (c : Start) → Checkable c.args.s c.args.nodes.now
able c = check_accepted _ _ c.requires.0

inner : (c : In-loop-a) → Checkable c.args.s c.args.nodes.now
inner c = able (goal.at.In-loop-a c).Start

-- the place lies within a node, and a node has few places
place : (c : In-loop-a) →
    let two = c.two_to-two.result in
    c.loop-layer.layer * two + c.loop-a.a < c.args.s.layers * two
place c = digits_lt c.loop-layer-test.true c.loop-a-test.true

places : (c : In-loop-a) →
    c.args.s.layers * c.two_to-two.result ≤ most_size
unfolding size
places c = rw c.two_to-two.ensures (inner c).shaped.size_high

pub two_to-two-requires : goal.two_to-two-requires
two_to-two-requires c = (able (goal.at.two_to-two-requires c).Start).shaped.n_high

pub overflow_sub-r : goal.overflow_sub-r
overflow_sub-r c = omega (arith, (able (goal.at.overflow_sub-r c).Start).shaped.k_high)

pub loop-layer-init : goal.loop-layer-init
loop-layer-init c = (search rules, λ x h. absurd (omega arith))

pub loop-a-init : goal.loop-a-init
loop-a-init c =
    let l = c.loop-layer in
    let two = c.two_to-two.ensures in
    (rw two c.requires.1.high, rw two (met_skip _ _ l.layer _ c.loop-layer-test.true c.requires.1 (rw two at l.invariant.1)))

pub points_at-points-requires : goal.points_at-points-requires
points_at-points-requires c = (inner c).shaped.n_high

pub overflow_mul-layers : goal.overflow_mul-layers
overflow_mul-layers c = omega (arith, places (goal.at.overflow_mul-layers c).In-loop-a)

pub overflow_mul-layer : goal.overflow_mul-layer
overflow_mul-layer c = omega (arith, place (goal.at.overflow_mul-layer c).In-loop-a, places (goal.at.overflow_mul-layer c).In-loop-a)

pub overflow_add-layer : goal.overflow_add-layer
overflow_add-layer c = omega (arith, place (goal.at.overflow_add-layer c).In-loop-a, places (goal.at.overflow_add-layer c).In-loop-a)

pub gathered-column-requires : goal.gathered-column-requires
unfolding size
gathered-column-requires c =
    let w = inner (goal.at.gathered-column-requires c).In-loop-a in
    let two = c.two_to-two.ensures in
    (w.shaped.n_high, place (goal.at.gathered-column-requires c).In-loop-a, rw two (omega (arith, w.long)))

-- both arrays have room for n entries
room : (c : After-gathered-column) →
    let n = c.args.s.n in
    (n ≤ length c.points_at-points.result) × (n ≤ length c.gathered-column.result)
room c = let h = (inner (goal.at.After-gathered-column c).In-loop-a).shaped.n_high in (omega (arith, c.points_at-points.ensures.0), omega (arith, c.gathered-column.ensures.long))

pub slice_bounds-points-end : goal.slice_bounds-points-end
slice_bounds-points-end c = (room c).0

pub slice_bounds-parity-end : goal.slice_bounds-parity-end
slice_bounds-parity-end c = sym (length-take-le _ _ (room (goal.at.slice_bounds-parity-end c).After-gathered-column).0)

pub slice_bounds-column-end : goal.slice_bounds-column-end
slice_bounds-column-end c = (room (goal.at.slice_bounds-column-end c).After-gathered-column).1

pub slice_bounds-parity-end-in-loop-a : goal.slice_bounds-parity-end-in-loop-a
slice_bounds-parity-end-in-loop-a c = sym (length-take-le _ _ (room (goal.at.slice_bounds-parity-end-in-loop-a c).After-gathered-column).1)

pub parity-sums-requires : goal.parity-sums-requires
parity-sums-requires c =
    let w = room (goal.at.parity-sums-requires c).After-gathered-column in
    let high = (inner (goal.at.parity-sums-requires c).In-loop-a).shaped.n_high in
    (omega arith, omega (arith, high), rw (length-take-le _ _ w.0) (omega (arith, high)), length-take-le _ _ w.1 ∙ sym (length-take-le _ _ w.0))

pub loop-t-init : goal.loop-t-init
loop-t-init c = let l = c.loop-a in (search rules, λ x h. l.invariant.1 x (omega arith))

-- a sum is that of its equation
sum_is : (c : In-loop-t) →
    let a = c.args in
    element c.parity-sums.result c.loop-t.t
    ≡ equation narrow a.s a.nodes.now (c.loop-layer.layer * 2 ^ a.s.n + c.loop-a.a) c.loop-t.t
unfolding size
sum_is c =
    let l = (goal.at.In-loop-t c).In-loop-a in
    let two = l.two_to-two.ensures in
    c.parity-sums.ensures _ c.loop-t-test.true
    ∙ gathered_equation _ (inner l).shaped.n_high _ _ _ (rw two at c.gathered-column.ensures) narrow _ _ _ _ refl (rw two at l.loop-a-test.true) c.points_at-points.ensures.1

-- an equation's number is within the array of sums
within : (c : In-loop-t-unread) → c.loop-t.t < most_nodes
within c = omega (arith, (inner (goal.at.In-loop-t-unread c).In-loop-a).shaped.n_high)

pub offset_bounds-sums-t : goal.offset_bounds-sums-t
offset_bounds-sums-t c = omega (arith, within c)

pub bounds-sums-t : goal.bounds-sums-t
bounds-sums-t c = omega (arith, within c)

pub loop-t-preserved : goal.loop-t-preserved
loop-t-preserved c =
    let i2 = (goal.at.loop-t-preserved c).In-loop-t in
    let two = i2.two_to-two.ensures in (
      search rules,
      rw two
          (met_more _ _ _ _ i2.loop-t-test.true (rw two at i2.loop-t.invariant.1) (sym (sum_is i2) ∙ c.if-sums-t-ne0.false)),
    )

pub loop-a-preserved : goal.loop-a-preserved
loop-a-preserved c =
    let l = c.loop-t in
    (search rules, λ x h. l.invariant.1 x (omega arith))

pub loop-layer-preserved : goal.loop-layer-preserved
loop-layer-preserved c =
    let l = c.loop-a in
    let s = c.args.s in
    let e : l.a ≡ c.two_to-two.result = omega arith in
    (search rules, λ x h. l.invariant.1 x (omega (arith, ap (λ z. z * (s.n - s.k)) e)))

pub returns : goal.returns
unfolding size
returns c =
    let l = c.loop-layer in
    let s = c.args.s in
    let e : l.layer ≡ s.layers = omega arith in
    sound_when s _ (λ x h. l.invariant.1 x (rw (c.two_to-two.ensures, e) h))

pub returns-then-sums-t-ne0 : goal.returns-then-sums-t-ne0
returns-then-sums-t-ne0 c =
    let i2 = (goal.at.returns-then-sums-t-ne0 c).In-loop-t in
    let two = i2.two_to-two.ensures in
    unmet_when _ _ _ _ _ i2.loop-layer-test.true (rw two at i2.loop-a-test.true) i2.loop-t-test.true
    (rw two at i2.loop-t.invariant.1) (λ e. c.if-sums-t-ne0.true (sum_is i2 ∙ e))
