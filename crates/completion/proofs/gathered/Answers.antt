-- `completion::gathered` meets its contract. Assumes nothing.
use Rattle.std.proofs.Common.{◌≡◌, ◌<◌, ◌≤◌, refl, length, get_or, length-set, arith}
use Rattle.lists.specs.Lists.{element}
use Rattle.lists.proofs.Stores.{stored_more}
use Rattle.lists.proofs.Members.{rising_below}
use Rattle.lists.proofs.Others.{rising_fits}
use Rattle.completion.proofs.gathered.Goals as goal
use Rattle.completion.proofs.gathered.Goals.{In-loop-j}

target : (c : In-loop-j) → get_or c.args.list.now c.loop-j.j 0 < length c.args.points.now
target c = rising_below _ _ c.requires.1 c.loop-j.j (omega arith)

room : (c : In-loop-j) → length c.args.list.now ≤ length c.args.points.now
room c = rising_fits _ _ c.requires.1

pub offset_bounds-points-entry : goal.offset_bounds-points-entry
offset_bounds-points-entry c = omega (arith, target (goal.at.offset_bounds-points-entry c).In-loop-j)

pub bounds-points-entry : goal.bounds-points-entry
bounds-points-entry c = target (goal.at.bounds-points-entry c).In-loop-j

pub bounds-out-j : goal.bounds-out-j
bounds-out-j c = omega (arith, room (goal.at.bounds-out-j c).In-loop-j)

pub loop-j-preserved : goal.loop-j-preserved
loop-j-preserved c =
    let i = (goal.at.loop-j-preserved c).In-loop-j in
    let l = i.loop-j in
    let s = i.args in (
      simp length-set l.invariant.0,
      stored_more (λ k x. x ≡ element s.points.now (element s.list.now k)) l.out l.j _ 0 (omega (arith, room i)) l.invariant.1 refl,
    )
