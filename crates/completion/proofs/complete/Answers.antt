-- The whole column: the listed values stored at their entries, and the missing ones at the others.
use mathlib.Core.Path.{◌≡◌, sym, ap, ◌∙◌}
use Prim.Native.Nat.{◌-◌, ◌≤◌}
use native.Mathlib.Omega.{arith}
use lib.ListN.{length, take, length-take}
use Rattle.lists.proofs.Others.{rising_fits}
use Rattle.column.proofs.Completing.{rest_length, rest_rising, whole_by}
use Rattle.completion.proofs.complete.Goals as goal
use Rattle.completion.proofs.complete.Goals.{After-missing-found, After-others-unknown, Start}

-- the listed entries are entries
fits : (c : Start) → length c.args.list.now ≤ length c.args.points.now
fits c = rising_fits _ _ c.requires.0.up

-- the other entries, as many as there are equations
others_count : (c : After-others-unknown) →
    length c.args.points.now - length c.args.list.now ≡ length (take (length c.args.points.now - length c.args.list.now) c.others-unknown.result)
others_count c =
    sym (ap length c.others-unknown.ensures ∙ rest_length c.args.q _ _ _ c.requires.0)

-- the values that were found for them
found_count : (c : After-missing-found) →
    length c.args.points.now - length c.args.list.now ≡ length (take (length c.args.points.now - length c.args.list.now) c.missing-found.result)
found_count c = simp length-take (omega (arith, c.missing-found.ensures.long, c.requires.0.few))

pub overflow_sub-r : goal.overflow_sub-r
overflow_sub-r c = fits (goal.at.overflow_sub-r c).Start

pub scatter-requires : goal.scatter-requires
scatter-requires c = (c.requires.0.each, rw c.requires.1 c.requires.0.up)

pub slice_bounds-found-end : goal.slice_bounds-found-end
slice_bounds-found-end c = omega (arith, c.missing-found.ensures.long, c.requires.0.few)

pub scatter-requires-2 : goal.scatter-requires-2
scatter-requires-2 c = (
  sym (found_count (goal.at.scatter-requires-2 c).After-missing-found) ∙ others_count (goal.at.scatter-requires-2 c).After-others-unknown,
  rw (c.others-unknown.ensures, c.scatter.ensures.long ∙ c.requires.1) (rest_rising c.args.q _ _ _ c.requires.0),
)

pub returns : goal.returns
returns c =
    record {
      whole =
          whole_by c.args.q c.args.points.now c.args.list.now c.args.values.now c.requires.0 c.args.column.now
          c.scatter.new.column _ _ c.requires.1 c.scatter.ensures
          (rw c.others-unknown.ensures at c.scatter-2.ensures)
          c.missing-found.ensures.found;
    }

pub slice_bounds-missing-end : goal.slice_bounds-missing-end
slice_bounds-missing-end c = others_count (goal.at.slice_bounds-missing-end c).After-others-unknown

pub slice_bounds-scatter-end : goal.slice_bounds-scatter-end
slice_bounds-scatter-end c = others_count (goal.at.slice_bounds-scatter-end c).After-others-unknown

pub slice_bounds-scatter-end-2 : goal.slice_bounds-scatter-end-2
slice_bounds-scatter-end-2 c = found_count (goal.at.slice_bounds-scatter-end-2 c).After-missing-found
