-- `wiring::send` meets its contract: the messages to the ranks passed stand one behind the other. Assumes nothing.
use mathlib.Core.Path.{◌≡◌, refl, sym, ap, ap₂, ◌∙◌}
use Prim.Native.Nat.{ℕ, ◌+◌, ◌-◌, ◌*◌, ◌≤◌}
use native.Mathlib.Omega.{arith}
use borrow.Rule.Slice.PartMut.{same_len_mid}
use lib.ListN.{length, take, length-take, length-drop}
use Rattle.lists.specs.Lists.{flat}
use Rattle.code.specs.Code.{narrow}
use Rattle.classes.specs.Classes.{message_size}
use Rattle.classes.specs.Whole.{from_helpers}
use Rattle.wiring.specs.Wires.{inward, inwards}
use Rattle.classes.proofs.Layouts.{ready_dead}
use Rattle.lists.proofs.Parts.{flat_start, flat_put, flat_front}
use Rattle.wiring.proofs.OnWire.{helpers_length, Room, wire_room}
use Rattle.wiring.proofs.send.Goals as goal
use Rattle.wiring.proofs.send.Goals.{In-loop-u, Start}

-- each rank's messages are of one length
even : (c : Start) → let a = c.args in (u : ℕ) → length (from_helpers narrow a.g.shape a.dead.now a.helpers.now a.nodes.now u) ≡ a.told
even c u = helpers_length (ready_dead c.requires.ready.0) _ _ c.requires.ready.3 u ∙ sym c.requires.ready.1

pub loop-u-init : goal.loop-u-init
loop-u-init c = (omega arith, refl, refl, flat_start c.args.told _ (even (goal.at.loop-u-init c).Start) _, refl)

room : (c : In-loop-u) → let a = c.args in Room a.dead.now a.g a.told c.loop-u.u
room c = wire_room c.requires.ready.0 _ _ c.requires.ready.1 (omega arith)

fits : (c : In-loop-u) → let a = c.args in c.loop-u.u * a.told + a.told ≤ length c.loop-u.wire
fits c = let r = room c in omega (arith, r.part, r.all, c.requires.nodes_len.1, c.loop-u.invariant.2)

pub overflow_mul-at : goal.overflow_mul-at
overflow_mul-at c = let r = room c in omega (arith, r.part, r.short)

pub overflow_add-end : goal.overflow_add-end
overflow_add-end c = let r = room c in omega (arith, r.part, r.short)

pub offset_bounds-wire-at : goal.offset_bounds-wire-at
offset_bounds-wire-at c = let r = room (goal.at.offset_bounds-wire-at c).In-loop-u in omega (arith, r.part, r.short)

pub slice_bounds-messages_to-end : goal.slice_bounds-messages_to-end
slice_bounds-messages_to-end c = fits (goal.at.slice_bounds-messages_to-end c).In-loop-u

pub messages_to-requires : goal.messages_to-requires
unfolding inward
messages_to-requires c =
    let p = c.requires.ready in
    let M = message_size c.args.g.shape c.args.dead.now in
    let q : c.args.told ≡ length c.args.helpers.now * M = p.1 ∙ ap (λ z. z * M) (sym p.3) in
    record { ready = (p.0, omega arith, p.2, omega (arith, p.4, c.loop-u.invariant.4)); nodes_len = (c.requires.nodes_len.0, simp (length-take, length-drop) (omega (arith, fits (goal.at.messages_to-requires c).In-loop-u, q))) }

pub loop-u-preserved : goal.loop-u-preserved
loop-u-preserved c =
    let st = (goal.at.loop-u-preserved c).Start in
    let a = st.args in
    let l = c.loop-u in
    let m = c.messages_to in (
      omega arith,
      refl,
      same_len_mid (l.u * a.told) (l.u * a.told + a.told - l.u * a.told) l.wire m.new.out m.auto.out ∙ l.invariant.2,
      flat_put a.told (from_helpers narrow a.g.shape a.dead.now a.helpers.now a.nodes.now) (even st) a.wire.now l.u l.wire _ l.invariant.3 m.ensures,
      m.auto.class ∙ l.invariant.4,
    )

pub returns : goal.returns
unfolding inwards
returns c =
    let st = (goal.at.returns c).Start in
    let a = st.args in
    let l = c.loop-u in
    let e : l.u ≡ length a.dead.now = omega arith in
    let f = from_helpers narrow a.g.shape a.dead.now a.helpers.now a.nodes.now in
    record {
      long = l.invariant.2;
      head = ap (λ z. take z l.wire) (sym (ap₂ ◌*◌ e st.requires.ready.1)) ∙ flat_front a.told f (even st) a.wire.now l.u l.wire l.invariant.3 ∙ ap (λ z. flat z f) e;
    }
