-- `finishing::answer` meets its contract: the Vandermonde equations of the unknowns, with what the kept sums lack on the right. Assumes nothing.
use mathlib.Core.Path.{sym}
use Prim.Native.Nat.{◌≤◌}
use native.Mathlib.Omega.{arith}
use lib.ListN.{length}
use lib.Seq.{length-take-le}
use Rattle.lists.proofs.Others.{rising_fits}
use Rattle.column.specs.Solving.{most_entries}
use Rattle.finishing.proofs.Answers.{rising_wide, answered}
use Rattle.finishing.proofs.answer.Goals as goal
use Rattle.finishing.proofs.answer.Goals.{Start}

few : (c : Start) → length c.args.unknown.now ≤ most_entries
few c = omega (arith, rising_fits _ _ c.requires.up, c.requires.few)

pub right_sides-right-requires : goal.right_sides-right-requires
right_sides-right-requires c = (few (goal.at.right_sides-right-requires c).Start, c.requires.kept)

pub unknown_points-points-requires : goal.unknown_points-points-requires
unknown_points-points-requires c = (c.requires.few, c.requires.node_below, c.requires.up)

pub vandermonde-requires : goal.vandermonde-requires
vandermonde-requires c = (omega arith, few (goal.at.vandermonde-requires c).Start)

pub solve-found-requires : goal.solve-found-requires
solve-found-requires c = (omega arith, few (goal.at.solve-found-requires c).Start)

pub slice_bounds-found-end : goal.slice_bounds-found-end
slice_bounds-found-end c = omega (arith, few (goal.at.slice_bounds-found-end c).Start, c.solve-found.ensures.long)

pub slice_bounds-scatter-end : goal.slice_bounds-scatter-end
slice_bounds-scatter-end c = sym (length-take-le _ _ (omega (arith, few (goal.at.slice_bounds-scatter-end c).Start, c.solve-found.ensures.long)))

pub scatter-requires : goal.scatter-requires
scatter-requires c =
    (length-take-le _ _ (omega (arith, few (goal.at.scatter-requires c).Start, c.solve-found.ensures.long)), rising_wide _ most_entries _ (omega (arith, c.requires.few)) c.requires.up)

pub returns : goal.returns
returns c =
    let a = c.args in
    answered a.n a.a a.i a.unknown.now a.at a.sums.now c.requires c.unknown_points-points.result c.right_sides-right.result c.solve-found.result c.vandermonde.result
    c.unknown_points-points.ensures c.vandermonde.ensures c.right_sides-right.ensures c.solve-found.ensures _ c.scatter.ensures
