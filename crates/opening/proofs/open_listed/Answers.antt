-- `opening::open_listed` meets its contract. Assumes nothing.
use mathlib.Core.Bool.{true}
use mathlib.Core.Path.{◌≡◌, ◌∙◌, subst}
use Prim.Native.Nat.{◌+◌, ◌*◌, ◌≤◌, ◌<◌}
use native.Mathlib.Omega.{arith}
use native.Mathlib.Nat.{mul-le-mul, mul-le-mul_right}
use lib.ListN.{length, get_or}
use Rattle.shape.specs.Shape.{size, most_nodes}
use Rattle.shape.proofs.Accepted.{shape_accepted, most_size}
use Rattle.opening.specs.Steps.{opened, Walked, OneOf, OfListed}
use Rattle.opening.proofs.Places.{listed_walked}
use Rattle.opening.proofs.Walking.{walked_none, walked_skip, walked_on, walked_ends}
use Rattle.opening.proofs.open_listed.Goals as goal
use Rattle.opening.proofs.open_listed.Goals.{After-open_row, Else-s-node, In-loop-j}

-- there are k listed nodes
below : (c : In-loop-j) → c.loop-j.j < c.args.s.k
below c = omega (arith, c.loop-j-test.true, c.requires.0.count)

-- a node's symbols lie among those handed in, and among the data symbols, and both are few
within : (c : Else-s-node) →
    let a = c.args in
    let each = c.size-each.result in
    (c.loop-j.j * each + each ≤ length a.symbols.now) × (length a.symbols.now ≤ most_nodes * most_size) × (get_or a.list.now c.loop-j.j 0 * each + each ≤ most_nodes * most_size)
within c =
    let a = c.args in
    let w = shape_accepted _ c.requires.0.shape in
    let z : a.s.k ≤ most_nodes = omega (arith, w.k_high, w.n_high) in
    let few = mul-le-mul z w.size_high in
    let j : c.loop-j.j + 1 ≤ a.s.k = omega (arith, below (goal.at.Else-s-node c).In-loop-j) in
    let i : get_or a.list.now c.loop-j.j 0 + 1 ≤ a.s.k = omega (arith, c.if-s-node.false) in
    rw c.size-each.ensures (omega (arith, c.requires.0.long, mul-le-mul_right (size a.s) j), omega (arith, c.requires.0.long, few), omega (arith, few, mul-le-mul_right (size a.s) i))

-- what was done with a node
walked : (c : After-open_row) →
    let a = c.args in
    Walked (opened a.s a.list.now a.symbols.now) a.len a.room (OfListed a.s a.list.now c.loop-j.j) c.loop-j.transcript c.open_row.new.transcript c.open_row.result
walked c =
    let a = c.args in
    listed_walked a.s a.list.now a.symbols.now c.requires.0 c.loop-j.j (below (goal.at.After-open_row c).In-loop-j) c.if-s-node.false a.len a.room _ _ _ (rw c.size-each.ensures at c.open_row.ensures)

pub size-each-requires : goal.size-each-requires
size-each-requires c = c.requires.0.shape

pub loop-j-init : goal.loop-j-init
loop-j-init c = walked_none _ _ _ _ _

pub loop-j-preserved-then-s-node : goal.loop-j-preserved-then-s-node
loop-j-preserved-then-s-node c =
    let l = c.loop-j in
    walked_skip _ _ _ _ _ l.j _ l.invariant (λ e d. omega (arith, d.0, c.if-s-node.true))

pub overflow_mul-from : goal.overflow_mul-from
overflow_mul-from c = omega (arith, within c)

pub overflow_add-to : goal.overflow_add-to
overflow_add-to c = omega (arith, within c)

pub overflow_mul-node : goal.overflow_mul-node
overflow_mul-node c = omega (arith, within c)

pub offset_bounds-symbols-from : goal.offset_bounds-symbols-from
offset_bounds-symbols-from c = omega (arith, within c)

pub slice_bounds-open_row-end : goal.slice_bounds-open_row-end
slice_bounds-open_row-end c = omega (arith, within c)

pub open_row-requires : goal.open_row-requires
open_row-requires c = (c.requires.1, omega (arith, c.requires.2, c.loop-j.invariant.long))

pub shape_of-transcript-then-not-open_row : goal.shape_of-transcript-then-not-open_row
shape_of-transcript-then-not-open_row c = (walked (goal.at.shape_of-transcript-then-not-open_row c).After-open_row).long ∙ c.loop-j.invariant.long

pub returns-then-not-open_row : goal.returns-then-not-open_row
returns-then-not-open_row c =
    let l = c.loop-j in
    walked_ends _ _ _ _ _ l.j _ l.invariant _ _ (walked (goal.at.returns-then-not-open_row c).After-open_row) _ (below (goal.at.returns-then-not-open_row c).In-loop-j) c.if-not-open_row.true

pub loop-j-preserved : goal.loop-j-preserved
loop-j-preserved c =
    let l = c.loop-j in
    walked_on _ _ _ _ _ l.j _ l.invariant _ _ (walked (goal.at.loop-j-preserved c).After-open_row) c.if-not-open_row.false

pub shape_of-transcript : goal.shape_of-transcript
shape_of-transcript c = c.loop-j.invariant.long

pub returns : goal.returns
returns c =
    let l = c.loop-j in
    let a = c.args in
    let e : l.j ≡ a.s.k = omega (arith, c.loop-j-test.false, c.requires.0.count) in
    subst (λ m. Walked (opened a.s a.list.now a.symbols.now) a.len a.room (OneOf m (OfListed a.s a.list.now)) a.transcript.now l.transcript true) e l.invariant
