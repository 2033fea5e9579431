-- `stretches::data_row` meets its contract. Assumes nothing.
use native.Mathlib.Nat.{mul-le-mul}
use lib.ListN.{get_or}
use mathlib.Core.Bool.{false}
use Rattle.lists.specs.Lists.{member}
use Rattle.lists.proofs.Places.{Place, place_of}
use Rattle.shape.specs.Shape.{size, most_nodes}
use Rattle.shape.proofs.Accepted.{shape_accepted, most_size}
use Rattle.filling.proofs.Filling.{row_room}
use Rattle.rows.specs.Rows.{copied}
use Rattle.opening.specs.Steps.{opened}
use Rattle.stretches.proofs.Alone.{own_row}
use mathlib.Core.Path.{◌≡◌, refl, sym, ap, ◌∙◌}
use Prim.Native.Nat.{◌+◌, ◌*◌, ◌/◌, ◌%◌, ◌≤◌}
use native.Mathlib.Omega.{arith}
use lib.Seq.{length-take-le}
use Rattle.rows.specs.Rows.{remainder}
use Rattle.opening.proofs.Places.{missing_summable, missing_weighed}
use borrow.Author.Rules.{rules}
use Rattle.stretches.proofs.data_row.Goals as goal
use Rattle.stretches.proofs.data_row.Goals.{After-position, After-size-each, Start}

-- the node's row and place
at : (c : After-size-each) → Place c.args.s.k (size c.args.s) c.args.b
at c = place_of _ _ _ c.requires.placed.4

-- whether the node is listed
flagged : (c : After-size-each) → let a = c.args in get_or a.marked (a.b / size a.s) false ≡ member (a.b / size a.s) a.list.now
flagged c =
    c.requires.placed.3.each _ (omega (arith, (at c).row, (shape_accepted _ c.requires.placed.0).k_high))

-- the run in the listed node's row, of the symbols handed in
inside : (c : After-position) → let a = c.args in
    (c.position.result * size a.s + a.b % size a.s + a.run ≤ a.s.k * size a.s) × (a.s.k * size a.s ≤ most_nodes * most_size)
inside c =
    let p = c.requires in
    let w = shape_accepted _ p.placed.0 in
    let z : c.args.s.k ≤ most_nodes = omega (arith, w.k_high, w.n_high) in
    (row_room _ _ c.position.result _ _ (omega (arith, c.position.ensures.0, p.placed.2)) p.placed.6, mul-le-mul z w.size_high)

few : (c : Start) → c.args.s.k ≤ most_nodes
few c = let w = shape_accepted _ c.requires.placed.0 in omega (arith, w.k_high, w.n_high)

pub size-each-requires : goal.size-each-requires
size-each-requires c = c.requires.placed.0

pub nonzero_div-node : goal.nonzero_div-node
nonzero_div-node c = omega (arith, c.size-each.ensures, (shape_accepted _ c.requires.placed.0).size_low)

pub nonzero_rem-place : goal.nonzero_rem-place
nonzero_rem-place c = omega (arith, c.size-each.ensures, (shape_accepted _ c.requires.placed.0).size_low)

pub bounds-marked-node : goal.bounds-marked-node
bounds-marked-node c = let w = shape_accepted _ c.requires.placed.0 in rw c.size-each.ensures (omega (arith, (at c).row, w.k_high, w.n_high))

pub slice_bounds-all-end : goal.slice_bounds-all-end
slice_bounds-all-end c = omega (arith, c.node_numbers-all.ensures.0, few (goal.at.slice_bounds-all-end c).Start)

pub slice_bounds-sum_row-end : goal.slice_bounds-sum_row-end
slice_bounds-sum_row-end c = sym (length-take-le _ _ (omega (arith, c.node_numbers-all.ensures.0, few (goal.at.slice_bounds-sum_row-end c).Start)))

pub overflow_mul-node : goal.overflow_mul-node
overflow_mul-node c = let z : c.args.b / size c.args.s ≤ most_nodes = omega (arith, (at (goal.at.overflow_mul-node c).After-size-each).row, few (goal.at.overflow_mul-node c).Start) in rw c.size-each.ensures (omega (arith, mul-le-mul z (few (goal.at.overflow_mul-node c).Start)))

pub sum_row-sums-requires : goal.sum_row-sums-requires
sum_row-sums-requires c =
    let z = (goal.at.sum_row-sums-requires c).After-size-each in
    let s = (goal.at.sum_row-sums-requires c).Start in
    let p = s.requires in
    rw (z.size-each.ensures, c.node_numbers-all.ensures.1 _ (few s)) (missing_summable s.args.s s.args.symbols.now s.args.table.now (s.args.b % size s.args.s) s.args.run (s.args.b / size s.args.s) p.placed.0 (at z).row p.placed.5 p.placed.6 p.table_len.0 p.table_len.1 p.table_len.2 p.table_len.3)

pub slice_bounds-store-end : goal.slice_bounds-store-end
slice_bounds-store-end c = refl

pub store-requires : goal.store-requires
store-requires c = (search rules, search rules, c.requires.placed.5, omega (arith, c.requires.placed.5))

pub returns-then-not-marked-node : goal.returns-then-not-marked-node
unfolding remainder
returns-then-not-marked-node c =
    let z = (goal.at.returns-then-not-marked-node c).After-size-each in
    let s = (goal.at.returns-then-not-marked-node c).Start in
    let a = s.args in
    let put = c.store.ensures in
    let summed = rw (z.size-each.ensures, c.node_numbers-all.ensures.1 _ (few s)) at c.sum_row-sums.ensures in
    let unlisted = sym (flagged z) ∙ rw z.size-each.ensures at c.if-not-marked-node.true in (
      put.long,
      λ w t h. ap (λ e. opened a.s a.list.now a.symbols.now (e + t)) (sym (at z).whole)
          ∙ missing_weighed a.s a.list.now a.symbols.now (a.b % size a.s) a.run s.requires.placed.6 a.table.now (a.b / size a.s) _ (at z).row unlisted w summed t h
          ∙ sym (put.there t h) ∙ ap (λ y. get_or c.store.new.out y 0) (let y : 0 + t ≡ t = omega arith in y),
    )

pub position-requires : goal.position-requires
position-requires c = let z = (goal.at.position-requires c).After-size-each in rw z.size-each.ensures (sym (flagged z) ∙ rw z.size-each.ensures at c.if-not-marked-node.false)

pub overflow_mul-from : goal.overflow_mul-from
overflow_mul-from c = let i = inside c in rw c.size-each.ensures (omega (arith, i.0, i.1))

pub overflow_add-from : goal.overflow_add-from
overflow_add-from c = let i = inside c in rw c.size-each.ensures (omega (arith, i.0, i.1))

pub slice_bounds-copy-end : goal.slice_bounds-copy-end
slice_bounds-copy-end c = refl

pub copy-requires : goal.copy-requires
copy-requires c = let p = c.requires in (rw c.size-each.ensures (omega (arith, (inside (goal.at.copy-requires c).After-position).0, p.table_len.2)), omega (arith, p.placed.5))

pub returns : goal.returns
unfolding copied
returns c =
    let z = (goal.at.returns c).After-size-each in
    let a = z.args in
    let q = c.position in
    let put = rw z.size-each.ensures at c.copy.ensures in
    let e = rw z.size-each.ensures at q.ensures.1 in (
      put.long,
      λ _ t h. own_row a.s a.list.now a.symbols.now z.requires.placed.0 z.requires.placed.1 z.requires.placed.2 a.b a.run q.result z.requires.placed.4 z.requires.placed.6 z.requires.table_len.3 q.ensures.0 e t h
          ∙ sym (put.there t h) ∙ ap (λ z. get_or c.copy.new.out z 0) (let z : 0 + t ≡ t = omega arith in z),
    )
