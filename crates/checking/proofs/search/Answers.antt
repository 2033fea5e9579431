-- `checking::search` meets its contract: nothing is known to be met where the rows are not looked at. Assumes nothing.
use mathlib.Core.Path.{sym}
use Prim.Native.Nat.{◌≤◌}
use native.Mathlib.Omega.{arith}
use lib.Seq.{length-take-le}
use Rattle.shape.specs.Shape.{most_nodes}
use Rattle.code.proofs.Accepted.{check_accepted}
use Rattle.checking.proofs.Meeting.{check_shape, met_none}
use Rattle.checking.proofs.search.Goals as goal
use Rattle.checking.proofs.search.Goals.{After-shared_slice_known-1}

few : (c : After-shared_slice_known-1) → c.args.s.k ≤ most_nodes
few c = let able = check_accepted _ _ c.requires in omega (arith, able.shaped.k_high, able.shaped.n_high)

pub slice_bounds-all-end : goal.slice_bounds-all-end
slice_bounds-all-end c = omega (arith, c.node_numbers-all.ensures.0, few (goal.at.slice_bounds-all-end c).After-shared_slice_known-1)

pub slice_bounds-rows_pay-end : goal.slice_bounds-rows_pay-end
slice_bounds-rows_pay-end c = sym (length-take-le _ _ (omega (arith, c.node_numbers-all.ensures.0, few (goal.at.slice_bounds-rows_pay-end c).After-shared_slice_known-1)))

pub rows_pay-requires : goal.rows_pay-requires
rows_pay-requires c = check_shape _ _ c.requires

pub rows_met-requires : goal.rows_met-requires
rows_met-requires c = c.requires

pub first_unmet-requires : goal.first_unmet-requires
first_unmet-requires c = (c.requires, c.rows_met.ensures)

pub first_unmet-requires-2 : goal.first_unmet-requires-2
first_unmet-requires-2 c = (c.requires, met_none _ _)
