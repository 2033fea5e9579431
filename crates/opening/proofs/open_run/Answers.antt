-- `opening::open_run` meets its contract. Assumes nothing.
use mathlib.Core.Bool.{true, false, true≢false}
use mathlib.Core.Path.{◌≡◌, sym, ◌∙◌, subst}
use Prim.Native.Nat.{◌+◌, ◌*◌, ◌≤◌}
use native.Mathlib.Omega.{arith}
use native.Mathlib.Nat.{mul-le-mul}
use borrow.Author.Rules.{rules}
use lib.Seq.{length-take-le, get_or-take}
use lib.ListN.{length, get_or, take}
use Rattle.lists.specs.Lists.{member}
use Rattle.shape.specs.Shape.{size, most_nodes}
use Rattle.shape.proofs.Accepted.{shape_accepted, most_size}
use Rattle.rows.proofs.Rows.{low_each}
use Rattle.filling.proofs.Filling.{row_room}
use Rattle.filling.specs.Filling.{InRun}
use Rattle.opening.specs.Steps.{opened, Walked, OneOf, AtRun}
use Rattle.opening.proofs.Places.{row_opened}
use Rattle.opening.proofs.Walking.{walked_as, walked_none, walked_skip, walked_on, walked_ends}
use Rattle.opening.proofs.open_run.Goals as goal
use Rattle.opening.proofs.open_run.Goals.{After-open_row, In-loop-i}

-- a flag says whether a node is listed
flagged : (c : In-loop-i) → let a = c.args in get_or a.marked c.loop-i.i false ≡ member c.loop-i.i a.list.now
flagged c =
    c.requires.1.each _ (omega (arith, c.loop-i-test.true, (shape_accepted _ c.requires.0.shape).k_high))

-- a row lies among the data symbols, and those are few
within : (c : In-loop-i) → let a = c.args in c.loop-i.i * c.size-each.result + a.place + a.run ≤ most_nodes * most_size
within c =
    let w = shape_accepted _ c.requires.0.shape in
    let z : c.args.s.k ≤ most_nodes = omega (arith, w.k_high, w.n_high) in
    rw c.size-each.ensures (omega (arith, row_room _ _ c.loop-i.i _ _ c.loop-i-test.true c.requires.3, mul-le-mul z w.size_high))

-- what was done with a row
walked : (c : After-open_row) →
    let a = c.args in
    Walked (opened a.s a.list.now a.symbols.now) a.len a.room (AtRun a.s a.list.now a.run a.place c.loop-i.i) c.loop-i.transcript c.open_row.new.transcript c.open_row.result
walked c =
    let a = c.args in
    let i = c.loop-i.i in
    let m = c.missing_row-row in
    let few : a.run ≤ length m.result = omega (arith, m.ensures.long, c.requires.2) in
    let unlisted = sym (flagged (goal.at.After-open_row c).In-loop-i) ∙ c.if-marked-i.false in
    walked_as _ _ _ (InRun (i * size a.s + a.place) a.run) (AtRun a.s a.list.now a.run a.place i) _ _ _ (λ e d. (unlisted, d)) (λ _ e d. d.1)
    (row_opened a.s a.list.now a.symbols.now c.requires.0 a.len a.room (i * size a.s + a.place) a.run (take a.run m.result) _ _ _ (length-take-le _ _ few)
    (λ t h. m.ensures.each a.list.now c.requires.0 c.requires.6 unlisted t h ∙ sym (get_or-take a.run m.result t 0 h))
    (rw c.size-each.ensures at c.open_row.ensures))

pub size-each-requires : goal.size-each-requires
size-each-requires c = c.requires.0.shape

pub loop-i-init : goal.loop-i-init
loop-i-init c = (search rules, walked_none _ _ _ _ _)

pub bounds-marked-i : goal.bounds-marked-i
bounds-marked-i c = let w = shape_accepted _ c.requires.0.shape in omega (arith, c.loop-i-test.true, w.k_high, w.n_high)

pub loop-i-preserved-then-marked-i : goal.loop-i-preserved-then-marked-i
loop-i-preserved-then-marked-i c =
    let l = c.loop-i in
    (search rules, walked_skip _ _ _ _ _ l.i _ l.invariant.1 (λ e d. true≢false (sym c.if-marked-i.true ∙ flagged (goal.at.loop-i-preserved-then-marked-i c).In-loop-i ∙ d.0)))

pub missing_row-row-requires : goal.missing_row-row-requires
missing_row-row-requires c =
    let p = c.requires in
    (p.0.shape, c.loop-i-test.true, p.2, p.3, p.4, p.5, p.0.long, low_each _ _ (search rules) p.0.small)

pub overflow_mul-i : goal.overflow_mul-i
overflow_mul-i c = omega (arith, within (goal.at.overflow_mul-i c).In-loop-i)

pub overflow_add-i : goal.overflow_add-i
overflow_add-i c = omega (arith, within (goal.at.overflow_add-i c).In-loop-i)

pub slice_bounds-row-end : goal.slice_bounds-row-end
slice_bounds-row-end c = omega (arith, c.missing_row-row.ensures.long, c.requires.2)

pub slice_bounds-open_row-end : goal.slice_bounds-open_row-end
slice_bounds-open_row-end c = sym (length-take-le _ _ (omega (arith, c.missing_row-row.ensures.long, c.requires.2)))

pub open_row-requires : goal.open_row-requires
open_row-requires c = (c.requires.7, omega (arith, c.requires.8, c.loop-i.invariant.1.long))

pub shape_of-transcript-then-not-open_row : goal.shape_of-transcript-then-not-open_row
shape_of-transcript-then-not-open_row c = (walked (goal.at.shape_of-transcript-then-not-open_row c).After-open_row).long ∙ c.loop-i.invariant.1.long

pub returns-then-not-open_row : goal.returns-then-not-open_row
returns-then-not-open_row c =
    let l = c.loop-i in
    walked_ends _ _ _ _ _ l.i _ l.invariant.1 _ _ (walked (goal.at.returns-then-not-open_row c).After-open_row) _ c.loop-i-test.true c.if-not-open_row.true

pub loop-i-preserved : goal.loop-i-preserved
loop-i-preserved c =
    let l = c.loop-i in
    (omega (arith, c.loop-i-test.true), walked_on _ _ _ _ _ l.i _ l.invariant.1 _ _ (walked (goal.at.loop-i-preserved c).After-open_row) c.if-not-open_row.false)

pub shape_of-transcript : goal.shape_of-transcript
shape_of-transcript c = c.loop-i.invariant.1.long

pub returns : goal.returns
returns c =
    let l = c.loop-i in
    let a = c.args in
    let e : l.i ≡ a.s.k = omega (arith, l.invariant.0) in
    subst (λ m. Walked (opened a.s a.list.now a.symbols.now) a.len a.room (OneOf m (AtRun a.s a.list.now a.run a.place)) a.transcript.now l.transcript true) e l.invariant.1
