-- `wiring::renew` meets its contract: the second steps of the ranks passed are done. Assumes nothing.
use mathlib.Core.Path.{◌≡◌, ap, ◌∙◌}
use mathlib.Core.List.{List}
use Prim.Native.Nat.{ℕ, ◌+◌, ◌-◌, ◌*◌, ◌≤◌, ◌<◌}
use native.Mathlib.Nat.{mul-le-mul}
use native.Mathlib.Omega.{arith}
use lib.ListN.{length, get_or, take, drop, length-take, length-drop}
use Rattle.lists.specs.Lists.{piece}
use Rattle.shape.specs.Shape.{size, most_nodes}
use Rattle.shape.proofs.Accepted.{shape_accepted, most_size}
use Rattle.classes.specs.Classes.{node, message_size}
use Rattle.wiring.specs.Wires.{from_others}
use Rattle.classes.proofs.Layouts.{ready_dead, node_high, bounded, share_high}
use Rattle.lists.proofs.Parts.{row_within, piece_part}
use Rattle.wiring.proofs.OnWire.{Room, wire_room, lent_others}
use Rattle.wiring.proofs.Ranked.{renewing_own, renewing_more, renewing_end, recovers_as}
use Rattle.wiring.proofs.renew.Goals as goal
use Rattle.wiring.proofs.renew.Goals.{In-loop-u, Start}

room : (c : Start) → Room c.args.dead.now c.args.g c.args.told 0
room c = wire_room c.requires.0 _ 0 c.requires.1 c.requires.0.some

pub overflow_mul-base : goal.overflow_mul-base
overflow_mul-base c = let r = room (goal.at.overflow_mul-base c).Start in omega (arith, r.short)

-- the rank's node and its messages are within their buffers
within : (c : In-loop-u) →
    let a = c.args in
    let l = c.loop-u in
    let i = get_or a.dead.now l.u 0 in
    let size = (length a.dead.now - 1) * a.g.share in
    (i * c.size-full.result + c.size-full.result ≤ length l.nodes) × (length l.nodes ≤ most_nodes * most_size)
    × (length a.dead.now * a.told + l.u * size + size ≤ length a.wire.now) × (length a.wire.now ≤ 2 * (most_nodes * most_nodes * most_size))
unfolding node
within c =
    let st = (goal.at.In-loop-u c).Start in
    let a = st.args in
    let l = c.loop-u in
    let R = st.requires.0 in
    let h = shape_accepted _ R.shaped in
    let u_low : l.u < length a.dead.now = omega arith in
    let i_low = (node_high R l.u u_low).0 in
    let r = room st in
    let H = length a.dead.now in
    let M = message_size a.g.shape a.dead.now in
    let m : H * (H - 1) * M ≤ most_nodes * most_nodes * most_size = mul-le-mul {n₂ = most_nodes * most_nodes} {m₂ = most_size} (mul-le-mul {n₂ = most_nodes} {m₂ = most_nodes} (omega (arith, (bounded R).dead_high)) (omega (arith, (bounded R).dead_high))) (share_high R) in (
      rw (c.size-full.ensures, l.invariant.0.long, st.requires.2) (row_within _ _ _ i_low),
      omega (arith, l.invariant.0.long, st.requires.2, mul-le-mul h.n_high h.size_high),
      rw (st.requires.3, R.share_is, ← r.all) (omega (arith, row_within H ((H - 1) * M) l.u u_low)),
      omega (arith, st.requires.3, r.all, r.short, m),
    )

pub overflow_mul-at : goal.overflow_mul-at
overflow_mul-at c = omega (arith, within (goal.at.overflow_mul-at c).In-loop-u)

pub overflow_add-end : goal.overflow_add-end
overflow_add-end c = omega (arith, within (goal.at.overflow_add-end c).In-loop-u)

pub overflow_add-from : goal.overflow_add-from
overflow_add-from c = omega (arith, within (goal.at.overflow_add-from c).In-loop-u)

pub overflow_add-to : goal.overflow_add-to
overflow_add-to c = omega (arith, within (goal.at.overflow_add-to c).In-loop-u)

pub offset_bounds-wire-from : goal.offset_bounds-wire-from
offset_bounds-wire-from c = omega (arith, within (goal.at.offset_bounds-wire-from c).In-loop-u)

pub slice_bounds-recover-end : goal.slice_bounds-recover-end
slice_bounds-recover-end c = (within (goal.at.slice_bounds-recover-end c).In-loop-u).2

pub offset_bounds-nodes-at : goal.offset_bounds-nodes-at
offset_bounds-nodes-at c = omega (arith, within (goal.at.offset_bounds-nodes-at c).In-loop-u)

pub slice_bounds-recover-end-in-loop-u : goal.slice_bounds-recover-end-in-loop-u
slice_bounds-recover-end-in-loop-u c = (within (goal.at.slice_bounds-recover-end-in-loop-u c).In-loop-u).0

-- what was lent, by the definitions
lent : (c : In-loop-u) →
    let a = c.args in
    let l = c.loop-u in
    let full = c.size-full.result in
    let at = get_or a.dead.now l.u 0 * full in
    let type_size = (length a.dead.now - 1) * a.g.share in
    let from = length a.dead.now * a.told + l.u * type_size in
    (take (from + type_size - from) (drop from a.wire.now) ≡ from_others a.g.shape a.dead.now l.u a.wire.now)
    × (take (at + full - at) (drop at l.nodes) ≡ piece (size a.g.shape) (node a.dead.now l.u) l.nodes)
unfolding node
lent c =
    let st = (goal.at.In-loop-u c).Start in
    let a = st.args in
    let l = c.loop-u in
    let e = c.size-full.ensures in
    let i = get_or a.dead.now l.u 0 in (
      lent_others a.g.shape a.dead.now _ _ l.u a.wire.now (room st).all (ap (λ z. (length a.dead.now - 1) * z) st.requires.0.share_is),
      piece_part c.size-full.result i l.nodes ∙ ap (λ z. piece z i l.nodes) e,
    )

pub recover-requires : goal.recover-requires
recover-requires c =
    let i = (goal.at.recover-requires c).In-loop-u in
    let l = i.loop-u in
    let w = within i in
    let e = i.requires.0.share_is in
    let h : l.u < length i.args.dead.now = omega arith in record { ready = (i.requires.0, omega arith, omega (arith, i.requires.5, l.invariant.1)); received_len = (simp (length-take, length-drop) (omega (arith, w, ap (λ z. (length i.args.dead.now - 1) * z) e)), simp (length-take, length-drop) (omega (arith, w, i.size-full.ensures))); low = (rw (lent i).0 (i.requires.4.received l.u h), rw ((lent i).1 ∙ renewing_own _ _ (ready_dead i.requires.0) l.u h _ _ _ l.invariant.0) (i.requires.4.own l.u h)) }

pub loop-u-preserved : goal.loop-u-preserved
unfolding node
loop-u-preserved c =
    let a = c.args in
    let l = c.loop-u in
    let R = c.requires.0 in
    let e = c.size-full.ensures in
    let i = (goal.at.loop-u-preserved c).In-loop-u in
    let last : List ℕ = c.recover.new.symbols in
    let long : length last ≡ size a.g.shape = c.recover.auto.symbols ∙ simp (length-take, length-drop) (omega (arith, within i, e)) in (
      rw e
          (renewing_more a.g.shape a.dead.now (ready_dead R) l.u (omega arith) a.nodes.now l.nodes a.wire.now last c.requires.2 long l.invariant.0
          (recovers_as _ _ _ _ _ _ _ _ (lent i).0 (lent i).1 c.recover.ensures)),
      c.recover.auto.table ∙ l.invariant.1,
    )

pub returns : goal.returns
returns c = let l = c.loop-u in renewing_end _ _ l.u _ _ _ (omega arith) l.invariant.0
