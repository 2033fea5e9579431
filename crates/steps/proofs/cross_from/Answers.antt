-- `steps::cross_from` meets its contract: the part of the messages received that is lent is the rank's message. Assumes nothing.
use mathlib.Core.Path.{◌≡◌, ap, ap₂, ◌∙◌}
use Prim.Native.Nat.{◌+◌, ◌-◌, ◌*◌, ◌≤◌, ◌<◌}
use native.Mathlib.Nat.{mul-le-mul_right, suc-mul}
use native.Mathlib.Omega.{arith}
use lib.ListN.{length, get_or, drop}
use lib.Seq.{get_or-take, get_or-drop}
use Rattle.lists.proofs.Buffers.{part_of}
use Rattle.code.specs.Code.{narrow}
use Rattle.classes.specs.Classes.{message_size}
use Rattle.steps.specs.Storing.{sent_by}
use Rattle.classes.proofs.Placing.{place_below}
use Rattle.classes.proofs.Layouts.{ready_dead}
use Rattle.steps.proofs.Storing.{crossed_sums}
use Rattle.steps.proofs.cross_from.Goals as goal
use Rattle.steps.proofs.cross_from.Goals.{After-among}

-- the message is within what was received
within : (c : After-among) →
    let a = c.args in
    (c.among.result * a.g.share + a.g.share ≤ length a.received.now) × (a.g.share ≡ message_size a.g.shape a.dead.now)
within c =
    let p = c.requires.ready in
    let M = message_size c.args.g.shape c.args.dead.now in
    let l : c.among.result < length c.args.dead.now - 1 = rw c.among.ensures (place_below (length c.args.dead.now) c.args.v c.args.u p.1 p.2 p.3) in
    let e = p.0.share_is in
    (rw e (omega (arith, mul-le-mul_right M l, suc-mul c.among.result M, c.requires.received_len.0)), e)

pub overflow_mul-at : goal.overflow_mul-at
overflow_mul-at c = omega (arith, (within c).0)

pub overflow_add-end : goal.overflow_add-end
overflow_add-end c = omega (arith, (within c).0)

pub offset_bounds-received-at : goal.offset_bounds-received-at
offset_bounds-received-at c = omega (arith, (within c).0)

pub slice_bounds-cross-end : goal.slice_bounds-cross-end
slice_bounds-cross-end c = (within c).0

pub returns : goal.returns
unfolding sent_by
returns c =
    let a = c.args in
    let w = within (goal.at.returns c).After-among in
    let at = c.among.result * a.g.share in
    crossed_sums narrow (ready_dead c.requires.ready.0) a.u a.which _ _ a.symbols.now _
    (λ x h. ap (λ z. get_or z x 0) (part_of at a.g.share a.received.now)
    ∙ get_or-take a.g.share (drop at a.received.now) x 0 (rw w.1 h) ∙ get_or-drop at a.received.now x 0
    ∙ ap₂ (λ y z. get_or a.received.now (y * z + x) 0) c.among.ensures w.1)
    c.cross.ensures
