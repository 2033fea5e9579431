-- `solving::hand_out` meets its contract: the sums of the ranks passed stand at their places. Assumes nothing.
use mathlib.Core.Path.{◌≡◌, refl}
use Prim.Native.Nat.{◌+◌, ◌*◌, ◌≤◌, ◌<◌}
use native.Mathlib.Nat.{mul-le-mul, mul-le-mul_right}
use native.Mathlib.Omega.{arith}
use lib.ListN.{length, get_or}
use Rattle.shape.specs.Shape.{most_nodes}
use Rattle.shape.proofs.Accepted.{most_size}
use Rattle.rows.specs.Rows.{most_places}
use Rattle.filling.specs.Filling.{Summable}
use Rattle.classes.specs.Classes.{node, message_size}
use Rattle.classes.proofs.Layouts.{bounded, share_high}
use Rattle.solving.specs.Solving.{slots}
use Rattle.solving.proofs.Slots.{slots_few}
use Rattle.solving.proofs.Puts.{put_none, put_same}
use Rattle.solving.proofs.Sending.{handed_more}
use Rattle.solving.proofs.hand_out.Goals as goal
use Rattle.solving.proofs.hand_out.Goals.{After-slot, Else-v-u}

pub loop-v-init : goal.loop-v-init
loop-v-init c = put_none _ _ _ _ _ _ (λ e x k h d. omega (arith, d.0))

pub loop-v-preserved-then-v-u : goal.loop-v-preserved-then-v-u
loop-v-preserved-then-v-u c =
    let l = c.loop-v in
    let e : l.v ≡ c.args.u = c.if-v-u.true in
    put_same _ _ _ _ _ _ _ _ _ (λ w x k h d. let z : w < l.v = omega (arith, d.0, k.1, e) in (z, d.1)) (λ w x k h d. let z : w < l.v + 1 = omega (arith, d.0) in (z, d.1)) (λ w x k h d. refl) l.invariant

-- what a rank's row is made of
able : (c : Else-v-u) →
    let a = c.args in
    Summable a.run most_places 0 a.helpers.now a.table.now (get_or a.dead.now c.loop-v.v 0 * length a.helpers.now) a.sent.now
unfolding node
able c = c.requires.ready.4 c.loop-v.v (omega arith)

pub overflow_mul-node : goal.overflow_mul-node
overflow_mul-node c = omega (arith, (able (goal.at.overflow_mul-node c).Else-v-u).room)

pub sum_row-sums-requires : goal.sum_row-sums-requires
sum_row-sums-requires c = able (goal.at.sum_row-sums-requires c).Else-v-u

pub slot-requires : goal.slot-requires
slot-requires c = let p = c.requires.ready in (p.1, omega arith, c.if-v-u.false, omega (arith, (bounded p.0).dead_high))

-- the row lies in the buffer
within : (c : After-slot) →
    let a = c.args in
    (c.slot.result * a.g.share + a.first + a.run ≤ length a.out.now) × (length a.out.now ≤ most_nodes * most_nodes * most_size) × (a.g.share ≡ message_size a.g.shape a.dead.now)
within c =
    let a = c.args in
    let p = c.requires.ready in
    let e = p.0.share_is in
    let M = message_size a.g.shape a.dead.now in (
      rw (e, c.requires.out_len) (omega (arith, p.3, mul-le-mul_right M (let z : c.slot.result + 1 ≤ slots a.all (length a.dead.now) = omega (arith, c.slot.ensures.0) in z))),
      rw c.requires.out_len (mul-le-mul {n₂ = most_nodes * most_nodes} {m₂ = most_size} (slots_few _ _ (omega (arith, (bounded p.0).dead_high))) (share_high p.0)),
      e,
    )

pub overflow_mul-slot : goal.overflow_mul-slot
overflow_mul-slot c = omega (arith, within c)

pub overflow_add-slot : goal.overflow_add-slot
overflow_add-slot c = omega (arith, within c)

pub store-requires : goal.store-requires
store-requires c = (omega arith, omega arith, c.requires.ready.2, omega (arith, within (goal.at.store-requires c).After-slot, c.loop-v.invariant.long))

pub loop-v-preserved : goal.loop-v-preserved
loop-v-preserved c =
    let l = c.loop-v in
    let a = c.args in
    let p = c.requires.ready in
    handed_more a.dead.now a.helpers.now a.table.now a.sent.now a.u a.all a.first a.run a.g.share l.v _ l.out _ _ p.1 (omega arith) c.if-v-u.false
    (rw p.0.share_is p.3) l.invariant c.sum_row-sums.ensures (rw c.slot.ensures.1 at c.store.ensures)

pub shape_of-out : goal.shape_of-out
shape_of-out c = c.loop-v.invariant.long

pub returns : goal.returns
returns c =
    let l = c.loop-v in
    let p = c.requires.ready in
    rw (← p.0.share_is) (put_same _ _ _ _ _ _ _ _ _ (λ w x k h d. (omega (arith, k.0), d)) (λ w x k h d. d.1) (λ w x k h d. refl) l.invariant)
