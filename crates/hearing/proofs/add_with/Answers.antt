-- `hearing::add_with` meets its contract: the sums of the symbols passed have them added, the others are as they were. Assumes nothing.
use Rattle.std.proofs.Common.{◌≡◌, refl, ap, ◌∙◌, ◌+◌, ◌-◌, ◌*◌, ◌%◌, ◌≤◌, ◌<◌, length, arith}
use native.Mathlib.Nat.{mod-add-mod}
use lib.ListN.{get_or}
use Rattle.lists.specs.Digits.{bit}
use Rattle.lists.proofs.Parts.{row_within}
use Rattle.shape.proofs.Accepted.{shape_accepted}
use Rattle.classes.specs.Classes.{spot_at, message_size}
use Rattle.classes.proofs.Layouts.{bounded}
use Rattle.arrival.specs.Sums.{kept_size}
use Rattle.arrival.proofs.Members.{cycled}
use Rattle.hearing.proofs.Adding.{added_row, added_all}
use Rattle.hearing.proofs.add_with.Goals as goal
use Rattle.hearing.proofs.add_with.Goals.{In-loop-x}

pub overflow_sub-r : goal.overflow_sub-r
overflow_sub-r c = omega (arith, (shape_accepted c.args.g.shape c.requires.0.ready.shaped).k_high)

pub both_powers-factors-requires : goal.both_powers-factors-requires
both_powers-factors-requires c = let b = bounded c.requires.0.ready in (omega (arith, b.n_high), omega (arith, b.n_high, c.requires.0.node))

-- the member of sum x, which the table has
member : (c : In-loop-x) →
    let a = c.args in
    (c.loop-x.j < a.g.members) × (c.loop-x.j < length c.list_members.new.out)
    × (get_or c.list_members.new.out c.loop-x.j 0 ≡ (spot_at a.g.shape a.dead.now a.u c.loop-x.x).a)
member c =
    rw c.loop-x.invariant.1
    (cycled c.requires.0.ready c.args.u c.list_members.new.out (rw c.rank_class.ensures at c.list_members.ensures)
    (omega (arith, c.requires.1, c.list_members.auto.out)) c.loop-x.x (omega (arith, c.loop-x-test.true, c.requires.0.message_long)))

pub bounds-class-j : goal.bounds-class-j
bounds-class-j c = (member (goal.at.bounds-class-j c).In-loop-x).1

pub overflow_shr-row : goal.overflow_shr-row
overflow_shr-row c = omega (arith, (bounded c.requires.0.ready).n_high, c.requires.0.node)

-- the r sums of a symbol are among those kept
room : (c : In-loop-x) →
    let s = c.args.g.shape in
    c.loop-x.x * (s.n - s.k) + (s.n - s.k) ≤ length c.loop-x.sums
unfolding kept_size
room c =
    let s = c.args.g.shape in
    let l = c.loop-x in
    let h : l.x < message_size s c.args.dead.now = omega (arith, c.loop-x-test.true, c.requires.0.message_long) in
    omega (arith, row_within (message_size s c.args.dead.now) (s.n - s.k) l.x h, l.invariant.2.long, c.requires.0.sums_long)

pub overflow_mul-x : goal.overflow_mul-x
overflow_mul-x c = omega (arith, room (goal.at.overflow_mul-x c).In-loop-x)

pub add_symbol-requires : goal.add_symbol-requires
add_symbol-requires c =
    let p = c.both_powers-factors.ensures in
    (omega (arith, p.long, (bounded c.requires.0.ready).n_high), room (goal.at.add_symbol-requires c).In-loop-x, p.low)

pub next_member-j-requires : goal.next_member-j-requires
next_member-j-requires c = (member (goal.at.next_member-j-requires c).In-loop-x).0

pub loop-x-preserved : goal.loop-x-preserved
unfolding bit
loop-x-preserved c =
    let a = c.args in
    let l = c.loop-x in (
      omega (arith, c.loop-x-test.true),
      c.next_member-j.ensures.1 ∙ ap (λ z. (z + 1) % a.g.members) l.invariant.1 ∙ mod-add-mod l.x a.g.members 1,
      added_row a.g.shape a.dead.now a.u a.helper a.message.now a.sums.now c.both_powers-factors.result c.both_powers-factors.ensures l.x _ _ l.sums _
          (member (goal.at.loop-x-preserved c).In-loop-x).2 refl l.invariant.2 c.add_symbol.ensures,
    )

pub returns : goal.returns
returns c =
    let a = c.args in
    let l = c.loop-x in
    let e : l.x ≡ message_size a.g.shape a.dead.now = omega (arith, c.loop-x-test.false, l.invariant.0, c.requires.0.message_long) in
    added_all a.g.shape a.dead.now a.u a.helper a.message.now a.sums.now c.both_powers-factors.result c.both_powers-factors.ensures l.sums c.requires.0.sums_long (rw (← e) l.invariant.2)
