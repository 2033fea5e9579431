-- `checking::rows_met` meets its contract: where nothing would be filled in anew from nodes 0 to k-1, the equations are met. Assumes nothing.
use mathlib.Core.Path.{sym}
use Prim.Native.Nat.{◌≤◌}
use native.Mathlib.Omega.{arith}
use lib.Seq.{length-take-le}
use Rattle.shape.specs.Shape.{most_nodes}
use Rattle.code.proofs.Accepted.{check_accepted}
use Rattle.checking.proofs.Meeting.{check_shape, checkable_fillable, held_met}
use Rattle.checking.proofs.rows_met.Goals as goal
use Rattle.checking.proofs.rows_met.Goals.{After-shared_slice_known-1}

few : (c : After-shared_slice_known-1) → c.args.s.k ≤ most_nodes
few c = let able = check_accepted _ _ c.requires in omega (arith, able.shaped.k_high, able.shaped.n_high)

pub slice_bounds-all-end : goal.slice_bounds-all-end
slice_bounds-all-end c = omega (arith, c.node_numbers-all.ensures.0, few (goal.at.slice_bounds-all-end c).After-shared_slice_known-1)

pub slice_bounds-listed_met-end : goal.slice_bounds-listed_met-end
slice_bounds-listed_met-end c = sym (length-take-le _ _ (omega (arith, c.node_numbers-all.ensures.0, few (goal.at.slice_bounds-listed_met-end c).After-shared_slice_known-1)))

pub listed_met-requires : goal.listed_met-requires
listed_met-requires c =
    (check_shape _ _ c.requires, rw (c.node_numbers-all.ensures.1 _ (few (goal.at.listed_met-requires c).After-shared_slice_known-1)) (checkable_fillable _ _ c.requires))

pub returns : goal.returns
returns c =
    let b = (goal.at.returns c).After-shared_slice_known-1 in
    held_met _ _ b.requires _ (rw (c.node_numbers-all.ensures.1 _ (few b)) at c.listed_met.ensures)
