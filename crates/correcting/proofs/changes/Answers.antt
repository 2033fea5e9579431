-- `correcting::changes` meets its contract: the column whose data node has the change, by one solve. Assumes nothing.
use mathlib.Core.Path.{◌≡◌, sym, ap, ◌∙◌}
use Prim.Native.Nat.{◌%◌, ◌^◌, ◌≤◌}
use native.Mathlib.Omega.{arith}
use lib.ListN.{take, replicate}
use lib.Pow.{pow_pos}
use lib.Seq.{length-take-le}
use Rattle.shape.specs.Shape.{most_nodes}
use Rattle.shape.proofs.Accepted.{Shaped, shape_accepted}
use Rattle.code.specs.Code.{narrow, points}
use Rattle.correcting.proofs.Solved.{solve_known, solved_changes}
use Rattle.correcting.proofs.changes.Goals as goal
use Rattle.correcting.proofs.changes.Goals.{After-alone-data, Start}

shaped : (c : Start) → Shaped c.args.s
shaped c = shape_accepted _ c.requires.0

few : (c : Start) → c.args.s.k ≤ most_nodes
few c = omega (arith, (shaped c).k_high, (shaped c).n_high)

pub nonzero_rem-place : goal.nonzero_rem-place
nonzero_rem-place c = rw c.two_to.ensures (pow_pos _)

-- the points of the solve
points_are : (c : After-alone-data) →
    let a = c.args in
    take a.s.n c.points_at-points.result ≡ points narrow a.s.n (a.place % 2 ^ a.s.n)
points_are c =
    let a = c.args in
    c.points_at-points.ensures.1 ∙ ap (λ u. points narrow a.s.n (a.place % u)) c.two_to.ensures

pub complete-requires : goal.complete-requires
complete-requires c =
    let d = (goal.at.complete-requires c).After-alone-data in
    let s = (goal.at.complete-requires c).Start in (
      solve_known s.args.s s.requires.0 s.args.node s.args.place s.args.by s.requires.1 s.requires.2 _ _ _ (points_are d)
          (d.node_numbers-all.ensures.1 _ (few s)) d.alone-data.ensures.0 d.alone-data.ensures.1,
      length-take-le _ (replicate most_nodes 0) (shaped s).n_high
          ∙ sym (length-take-le _ _ (omega (arith, d.points_at-points.ensures.0, (shaped s).n_high))),
    )

pub returns : goal.returns
returns c =
    let d = (goal.at.returns c).After-alone-data in
    let s = (goal.at.returns c).Start in
    solved_changes s.args.s s.requires.0 s.args.node s.args.place s.args.by s.requires.1 s.requires.2 _ _ _ (points_are d)
    (d.node_numbers-all.ensures.1 _ (few s)) d.alone-data.ensures.0 d.alone-data.ensures.1 _ c.complete.ensures

pub two_to-requires : goal.two_to-requires
two_to-requires c = (shaped c).n_high

pub points_at-points-requires : goal.points_at-points-requires
points_at-points-requires c = (shaped (goal.at.points_at-points-requires c).Start).n_high

pub alone-data-requires : goal.alone-data-requires
alone-data-requires c = omega (arith, few (goal.at.alone-data-requires c).Start, c.requires.1)

pub slice_bounds-points-end : goal.slice_bounds-points-end
slice_bounds-points-end c = omega (arith, c.points_at-points.ensures.0, (shaped (goal.at.slice_bounds-points-end c).Start).n_high)

pub slice_bounds-complete-end : goal.slice_bounds-complete-end
slice_bounds-complete-end c = sym (length-take-le _ _ (omega (arith, c.points_at-points.ensures.0, (shaped (goal.at.slice_bounds-complete-end c).Start).n_high)))

pub slice_bounds-all-end : goal.slice_bounds-all-end
slice_bounds-all-end c = omega (arith, c.node_numbers-all.ensures.0, few (goal.at.slice_bounds-all-end c).Start)

pub slice_bounds-complete-end-2 : goal.slice_bounds-complete-end-2
slice_bounds-complete-end-2 c = sym (length-take-le _ _ (omega (arith, c.node_numbers-all.ensures.0, few (goal.at.slice_bounds-complete-end-2 c).Start)))

pub slice_bounds-data-end : goal.slice_bounds-data-end
slice_bounds-data-end c = omega (arith, c.alone-data.ensures.0, few (goal.at.slice_bounds-data-end c).Start)

pub slice_bounds-complete-end-3 : goal.slice_bounds-complete-end-3
slice_bounds-complete-end-3 c = sym (length-take-le _ _ (omega (arith, c.alone-data.ensures.0, few (goal.at.slice_bounds-complete-end-3 c).Start)))

pub slice_bounds-out-end : goal.slice_bounds-out-end
slice_bounds-out-end c = (shaped (goal.at.slice_bounds-out-end c).Start).n_high

pub slice_bounds-complete-end-4 : goal.slice_bounds-complete-end-4
slice_bounds-complete-end-4 c = sym (length-take-le _ (replicate most_nodes 0) (shaped (goal.at.slice_bounds-complete-end-4 c).Start).n_high)
