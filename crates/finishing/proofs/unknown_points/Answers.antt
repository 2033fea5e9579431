-- `finishing::unknown_points` meets its contract. Assumes nothing.
use Rattle.std.proofs.Common.{◌≡◌, ◌≤◌, ◌<◌, length, length-take, ℕ, arith, rules}
use Rattle.std.proofs.lemmas.List.{places}
use Rattle.lists.proofs.Members.{rising_below}
use Rattle.lists.proofs.Others.{rising_fits}
use Rattle.column.specs.Solving.{most_entries}
use Rattle.finishing.proofs.unknown_points.Goals as goal
use Rattle.finishing.proofs.unknown_points.Goals.{Start}

few : (c : Start) → length c.args.unknown.now ≤ most_entries
few c = omega (arith, rising_fits _ _ c.requires.2, c.requires.0)

pub slice_bounds-out-end : goal.slice_bounds-out-end
slice_bounds-out-end c = few (goal.at.slice_bounds-out-end c).Start

pub slice_bounds-point-items-end : goal.slice_bounds-point-items-end
slice_bounds-point-items-end c = omega (arith, few (goal.at.slice_bounds-point-items-end c).Start, length-take {A = ℕ})

pub entry_point-requires : goal.entry_point-requires
entry_point-requires c =
    let j : c.loop-j.j < length c.args.unknown.now = omega (arith, length-take {A = ℕ}) in
    (c.requires.0, c.requires.1, rising_below _ _ c.requires.2 c.loop-j.j j)

pub returns : goal.returns
returns c =
    let l = c.loop-j in
    let f = few (goal.at.returns c).Start in
    let n : length l.point-items ≡ length c.args.unknown.now = omega (arith, f, length-take {A = ℕ}) in
    λ j h. search (rules, places, l.invariant)
