-- `opening::missing_row` meets its contract. Assumes nothing.
use mathlib.Core.Path.{◌≡◌, refl, sym, ap, ◌∙◌}
use Prim.Native.Nat.{◌+◌, ◌≤◌}
use native.Mathlib.Omega.{arith}
use native.Mathlib.Nat.{mul-le-mul}
use borrow.Author.Rules.{rules}
use lib.ListN.{get_or}
use lib.Seq.{length-take-le}
use Rattle.shape.proofs.Accepted.{shape_accepted}
use Rattle.shape.specs.Shape.{most_nodes}
use Rattle.rows.specs.Rows.{remainder}
use Rattle.opening.proofs.Places.{missing_summable, missing_weighed}
use Rattle.opening.proofs.missing_row.Goals as goal
use Rattle.opening.proofs.missing_row.Goals.{Start}

few : (c : Start) → c.args.s.k ≤ most_nodes
few c = let w = shape_accepted _ c.requires.0 in omega (arith, w.k_high, w.n_high)

pub slice_bounds-all-end : goal.slice_bounds-all-end
slice_bounds-all-end c = omega (arith, c.node_numbers-all.ensures.0, few (goal.at.slice_bounds-all-end c).Start)

pub slice_bounds-sum_row-end : goal.slice_bounds-sum_row-end
slice_bounds-sum_row-end c = sym (length-take-le _ _ (omega (arith, c.node_numbers-all.ensures.0, few (goal.at.slice_bounds-sum_row-end c).Start)))

pub overflow_mul-i : goal.overflow_mul-i
overflow_mul-i c =
    let s = (goal.at.overflow_mul-i c).Start in
    let z : s.args.i ≤ most_nodes = omega (arith, few s, s.requires.1) in
    omega (arith, mul-le-mul z (few s))

pub sum_row-sums-requires : goal.sum_row-sums-requires
sum_row-sums-requires c =
    let s = (goal.at.sum_row-sums-requires c).Start in
    let p = s.requires in
    rw (c.size.ensures, c.node_numbers-all.ensures.1 _ (few s)) (missing_summable s.args.s s.args.symbols.now s.args.table.now s.args.place s.args.run s.args.i p.0 p.1 p.2 p.3 p.4 p.5 p.6 (λ j t _ _. p.7.at _))

pub slice_bounds-store-end : goal.slice_bounds-store-end
slice_bounds-store-end c = refl

pub store-requires : goal.store-requires
store-requires c = (search rules, search rules, c.requires.2, omega (arith, c.requires.2))

pub returns : goal.returns
unfolding remainder
returns c =
    let s = (goal.at.returns c).Start in
    let a = s.args in
    let put = c.store.ensures in
    let summed = rw (c.size.ensures, c.node_numbers-all.ensures.1 _ (few s)) at c.sum_row-sums.ensures in
    record {
      long = put.long;
      each = λ list given w unlisted t h.
          missing_weighed a.s list a.symbols.now a.place a.run s.requires.3 a.table.now a.i _ s.requires.1 unlisted w summed t h
          ∙ sym (put.there t h) ∙ ap (λ z. get_or c.store.new.out z 0) (let z : 0 + t ≡ t = omega arith in z);
    }
