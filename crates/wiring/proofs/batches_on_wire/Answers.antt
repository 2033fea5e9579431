-- `wiring::batches_on_wire` meets its contract: the sums of the batches passed are done. Assumes nothing.
use mathlib.Core.Path.{◌≡◌, ◌∙◌}
use Prim.Native.Nat.{◌+◌, ◌*◌, ◌≤◌}
use native.Mathlib.Nat.{mul-le-mul_right}
use native.Mathlib.Omega.{arith}
use Rattle.shape.specs.Shape.{most_layers}
use Rattle.shape.proofs.Accepted.{most_size}
use Rattle.classes.specs.Classes.{message_size}
use Rattle.classes.proofs.Layouts.{bounded, share_high}
use Rattle.solving.proofs.Entries.{batches_high, batch_room}
use Rattle.wiring.proofs.Passing.{on_wire_none, on_wire_batch, still_wired}
use Rattle.wiring.proofs.batches_on_wire.Goals as goal
use Rattle.wiring.proofs.batches_on_wire.Goals.{In-loop-b}

pub loop-b-init : goal.loop-b-init
loop-b-init c = let p = c.requires.ready in (omega arith, on_wire_none p.0 _ _ p.1 _ _ _ (λ x h d. omega (arith, d.2)))

-- the run of this batch is within the messages, and the batch within a node
room : (c : In-loop-b) →
    let a = c.args in
    let b = c.loop-b.b in
    (b * a.count + a.first + a.run ≤ message_size a.g.shape a.dead.now) × (message_size a.g.shape a.dead.now ≤ most_size) × (b * a.g.batch * a.g.places ≤ most_size) × (b * a.g.batch ≤ most_layers)
room c =
    let p = c.requires in
    let a = c.args in
    let B = bounded p.ready.0 in
    let b = c.loop-b.b in
    let m : b * a.g.batch ≤ a.g.batches * a.g.batch = mul-le-mul_right a.g.batch (let z : b ≤ a.g.batches = omega (arith, c.loop-b-test.true) in z) in (
      batch_room _ a.g.batches b a.count a.first a.run p.run_fits.2 p.run_fits.1 c.loop-b-test.true,
      share_high p.ready.0,
      omega (arith, mul-le-mul_right a.g.places m, B.size_is, B.size_high),
      omega (arith, m, B.layers_are, B.layers_high),
    )

pub overflow_mul-b : goal.overflow_mul-b
overflow_mul-b c = omega (arith, room c)

pub overflow_add-b : goal.overflow_add-b
overflow_add-b c = omega (arith, room c)

pub overflow_mul-b-in-loop-b : goal.overflow_mul-b-in-loop-b
overflow_mul-b-in-loop-b c = omega (arith, room c)

pub overflow_mul-b-in-loop-b-2 : goal.overflow_mul-b-in-loop-b-2
overflow_mul-b-in-loop-b-2 c = omega (arith, room c)

pub run_on_wire-requires : goal.run_on_wire-requires
run_on_wire-requires c =
    let p = c.requires in
    let l = c.loop-b in
    record { ready = (p.ready.0, p.ready.1, p.ready.2, l.invariant.1.own.long ∙ p.ready.3, still_wired p.ready.0 _ _ p.ready.1 _ _ l.part _ _ l.wire (omega (arith, p.ready.4.long)) _ p.ready.4 l.invariant.1); run_fits = (p.run_fits.0, (room (goal.at.run_on_wire-requires c).In-loop-b).0, p.run_fits.3 l.b c.loop-b-test.true, p.run_fits.4 l.b c.loop-b-test.true) }

pub overflow_step-b : goal.overflow_step-b
overflow_step-b c = omega (arith, c.loop-b-test.true, batches_high c.requires.ready.0)

pub loop-b-preserved : goal.loop-b-preserved
loop-b-preserved c =
    let p = c.requires in
    let a = c.args in
    let l = c.loop-b in
    (omega (arith, c.loop-b-test.true), on_wire_batch p.ready.0 _ _ p.ready.1 _ _ _ _ _ _ (omega (arith, p.ready.4.long)) a.first a.run l.b a.count p.run_fits.1 l.invariant.1 c.run_on_wire.ensures)

pub shape_of-part : goal.shape_of-part
shape_of-part c = c.loop-b.invariant.1.own.long

pub shape_of-wire : goal.shape_of-wire
shape_of-wire c = c.loop-b.invariant.1.long

pub returns : goal.returns
returns c =
    let l = c.loop-b in
    let e : l.b ≡ c.args.g.batches = omega arith in
    rw (← e) l.invariant.1
