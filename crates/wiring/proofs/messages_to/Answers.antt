-- `wiring::messages_to` meets its contract: the messages of the helpers passed stand one behind the other. Assumes nothing.
use mathlib.Core.Path.{◌≡◌, refl, sym, ap, ◌∙◌}
use Prim.Native.Nat.{◌+◌, ◌-◌, ◌*◌, ◌≤◌, ◌<◌}
use native.Mathlib.Nat.{mul-le-mul}
use native.Mathlib.Omega.{arith}
use borrow.Rule.Slice.PartMut.{same_len_mid}
use lib.ListN.{length, get_or}
use Rattle.lists.specs.Lists.{flat, piece}
use Rattle.lists.proofs.Members.{rising_below}
use Rattle.lists.proofs.Others.{rising_fits}
use Rattle.lists.proofs.Flats.{flat_none}
use Rattle.lists.proofs.Buffers.{onto, onto_none}
use Rattle.shape.specs.Shape.{most_nodes}
use Rattle.shape.proofs.Accepted.{shape_accepted, most_size}
use Rattle.code.specs.Code.{narrow}
use Rattle.classes.specs.Classes.{message_size}
use Rattle.classes.specs.Steps.{helper_message}
use Rattle.classes.specs.Whole.{from_helper, from_helpers}
use Rattle.classes.proofs.FirstStep.{message_length}
use Rattle.classes.proofs.Layouts.{ready_dead, share_high}
use Rattle.lists.proofs.Parts.{row_within, piece_part, flat_put, flat_whole}
use Rattle.wiring.proofs.messages_to.Goals as goal
use Rattle.wiring.proofs.messages_to.Goals.{In-loop-j}

pub loop-j-init : goal.loop-j-init
loop-j-init c = (refl, onto_none _ ∙ ap (λ z. onto z c.args.out.now) (sym (flat_none _)))

-- both parts are within their buffers
within : (c : In-loop-j) →
    let a = c.args in
    let full = c.size-full.result in
    let i = get_or a.helpers.now c.loop-j.j 0 in
    (i * full + full ≤ length a.nodes.now) × (length a.nodes.now ≤ most_nodes * most_size) × (c.loop-j.j * a.g.share + a.g.share ≤ length c.loop-j.out)
    × (length c.loop-j.out ≤ most_nodes * most_nodes * most_size) × (a.g.share ≡ message_size a.g.shape a.dead.now)
within c =
    let a = c.args in
    let R = c.requires.ready.0 in
    let h = shape_accepted _ R.shaped in
    let e = c.size-full.ensures in
    let s = R.share_is in
    let l = c.loop-j in
    let j_low : l.j < length a.helpers.now = omega arith in
    let i_low = rising_below _ _ c.requires.ready.2 l.j j_low in (
      rw (e, c.requires.nodes_len.0) (row_within _ _ _ i_low),
      omega (arith, c.requires.nodes_len.0, mul-le-mul h.n_high h.size_high),
      rw (l.invariant.0, c.requires.nodes_len.1, s) (row_within _ _ _ j_low),
      rw (l.invariant.0, c.requires.nodes_len.1) (mul-le-mul {n₂ = most_nodes * most_nodes} {m₂ = most_size} (omega (arith, h.n_high, rising_fits _ _ c.requires.ready.2)) (share_high R)),
      s,
    )

pub overflow_mul-from : goal.overflow_mul-from
overflow_mul-from c = omega (arith, within (goal.at.overflow_mul-from c).In-loop-j)

pub overflow_add-to : goal.overflow_add-to
overflow_add-to c = omega (arith, within (goal.at.overflow_add-to c).In-loop-j)

pub offset_bounds-nodes-from : goal.offset_bounds-nodes-from
offset_bounds-nodes-from c = omega (arith, within (goal.at.offset_bounds-nodes-from c).In-loop-j)

pub slice_bounds-message_by-end : goal.slice_bounds-message_by-end
slice_bounds-message_by-end c = (within (goal.at.slice_bounds-message_by-end c).In-loop-j).0

pub loop-j-preserved : goal.loop-j-preserved
unfolding from_helper
loop-j-preserved c =
    let a = c.args in
    let R = c.requires.ready.0 in
    let l = c.loop-j in
    let s = R.share_is in
    let i = get_or a.helpers.now l.j 0 in
    let full = c.size-full.result in
    let m = c.message_by in (
      same_len_mid (l.j * a.g.share) (l.j * a.g.share + a.g.share - l.j * a.g.share) l.out m.new.message m.auto.message ∙ l.invariant.0,
      flat_put a.g.share (from_helper narrow a.g.shape a.dead.now a.helpers.now a.nodes.now a.u)
          (λ j. message_length (ready_dead R) narrow _ _ ∙ sym s) a.out.now l.j l.out _ l.invariant.1
          (m.ensures ∙ ap (helper_message narrow a.g.shape a.dead.now a.u) (piece_part full i a.nodes.now ∙ ap (λ z. piece z i a.nodes.now) c.size-full.ensures)),
    )

pub returns : goal.returns
unfolding from_helpers from_helper
returns c =
    let a = c.args in
    let l = c.loop-j in
    let R = c.requires.ready.0 in
    let e : l.j ≡ length a.helpers.now = omega arith in
    flat_whole (message_size a.g.shape a.dead.now) (from_helper narrow a.g.shape a.dead.now a.helpers.now a.nodes.now a.u)
    (λ j. message_length (ready_dead R) narrow _ _) a.out.now l.j l.out l.invariant.1 (c.requires.nodes_len.1 ∙ ap (λ z. z * message_size a.g.shape a.dead.now) (sym e))
    ∙ ap (λ z. flat z (from_helper narrow a.g.shape a.dead.now a.helpers.now a.nodes.now a.u)) e
