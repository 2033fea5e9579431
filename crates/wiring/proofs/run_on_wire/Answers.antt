-- `wiring::run_on_wire` meets its contract: the run's own symbols and its sums. Assumes nothing.
use mathlib.Core.Path.{◌≡◌, sym, ap₂, ◌∙◌}
use mathlib.Core.Bool.{true}
use mathlib.Core.List.{List}
use Prim.Native.Nat.{ℕ, ◌+◌, ◌-◌, ◌*◌, ◌≤◌}
use native.Mathlib.Omega.{arith}
use lib.ListN.{length, take, drop, length-take, length-drop}
use Rattle.classes.specs.Classes.{node}
use Rattle.classes.proofs.Layouts.{bounded, ready_dead, node_high}
use Rattle.solving.specs.Solving.{slots, Helped}
use Rattle.solving.proofs.Entries.{entry_summable, rank_summable, run_handed, run_owned}
use Rattle.wiring.specs.Wires.{to_rank, own_place}
use Rattle.lists.proofs.Parts.{tail_length, tail_front}
use Rattle.wiring.proofs.OnWire.{Room, wire_room, lent_rank, tail_put}
use Rattle.wiring.proofs.Passing.{own_apart, own_places}
use Rattle.wiring.proofs.run_on_wire.Goals as goal
use Rattle.wiring.proofs.run_on_wire.Goals.{Start}

room : (c : Start) → Room c.args.dead.now c.args.g c.args.told c.args.u
room c = wire_room c.requires.ready.0 _ _ c.requires.ready.2 c.requires.ready.1

-- the helpers' messages are within the wire
fits : (c : Start) → length c.args.dead.now * c.args.told ≤ length c.args.wire.now
fits c = let r = room c in omega (arith, r.all, c.requires.ready.4.long)

-- what is lent of them
lent : (c : Start) → let a = c.args in
    take (a.u * a.told + a.told - a.u * a.told) (drop (a.u * a.told) a.wire.now) ≡ to_rank a.g.shape a.dead.now a.u a.wire.now
lent c = let a = c.args in lent_rank a.g.shape a.dead.now a.told a.u a.wire.now c.requires.ready.2

helped : (c : Start) → let a = c.args in
    Helped a.g.shape a.dead.now a.helpers.now a.u (take (a.u * a.told + a.told - a.u * a.told) (drop (a.u * a.told) a.wire.now))
helped c = rw (lent c) (c.requires.ready.4.helped _ c.requires.ready.1)

pub overflow_mul-at : goal.overflow_mul-at
overflow_mul-at c = let r = room (goal.at.overflow_mul-at c).Start in omega (arith, r.part, r.short)

pub overflow_add-end : goal.overflow_add-end
overflow_add-end c = let r = room (goal.at.overflow_add-end c).Start in omega (arith, r.part, r.short)

pub overflow_mul-base : goal.overflow_mul-base
overflow_mul-base c = let r = room (goal.at.overflow_mul-base c).Start in omega (arith, r.short)

pub offset_bounds-wire-at : goal.offset_bounds-wire-at
offset_bounds-wire-at c = let r = room (goal.at.offset_bounds-wire-at c).Start in omega (arith, r.part, r.short)

pub slice_bounds-gather-end : goal.slice_bounds-gather-end
slice_bounds-gather-end c = let r = room (goal.at.slice_bounds-gather-end c).Start in omega (arith, r.part, fits (goal.at.slice_bounds-gather-end c).Start)

pub gather-sent-requires : goal.gather-sent-requires
gather-sent-requires c =
    let R = c.requires.ready.0 in
    let H = helped (goal.at.gather-sent-requires c).Start in
    ((bounded R).n_high, H.rises, c.requires.run_fits.0, rw R.share_is c.requires.run_fits.1, H.long ∙ ap₂ ◌*◌ (sym H.count) (sym R.share_is))

pub put_entry-requires : goal.put_entry-requires
unfolding node
put_entry-requires c =
    let p = c.requires.run_fits in
    let R = c.requires.ready.0 in
    (entry_summable R _ _ _ (helped (goal.at.put_entry-requires c).Start) _ _ p.0 p.1 _ _ p.2 c.gather-sent.ensures _ (omega (arith, node_high R _ c.requires.ready.1)), rw c.requires.ready.3 (own_places (ready_dead R) _ c.requires.ready.1 0 _ _ _ _ p.3.ones_long (omega arith) p.1 p.3.one))

pub put_entry-requires-2 : goal.put_entry-requires-2
put_entry-requires-2 c =
    let p = c.requires.run_fits in
    let R = c.requires.ready.0 in
    (entry_summable R _ _ _ (helped (goal.at.put_entry-requires-2 c).Start) _ _ p.0 p.1 _ _ p.2 c.gather-sent.ensures _ (omega arith), rw (c.put_entry.ensures.long, c.requires.ready.3) (own_places (ready_dead R) _ c.requires.ready.1 1 _ _ _ _ p.3.others_long (omega arith) p.1 p.3.other))

pub offset_bounds-wire-base : goal.offset_bounds-wire-base
offset_bounds-wire-base c = let r = room (goal.at.offset_bounds-wire-base c).Start in omega (arith, r.short)

pub slice_bounds-hand_out-count : goal.slice_bounds-hand_out-count
slice_bounds-hand_out-count c = fits (goal.at.slice_bounds-hand_out-count c).Start

pub slice_bounds-hand_out-start : goal.slice_bounds-hand_out-start
slice_bounds-hand_out-start c = fits (goal.at.slice_bounds-hand_out-start c).Start

pub hand_out-requires : goal.hand_out-requires
unfolding slots
hand_out-requires c =
    let st = (goal.at.hand_out-requires c).Start in
    let p = st.requires.run_fits in
    let R = st.requires.ready.0 in
    record { ready = (R, st.requires.ready.1, p.0, p.1, rank_summable R _ _ _ (helped (goal.at.hand_out-requires c).Start) _ _ p.0 p.1 _ _ p.2 c.gather-sent.ensures); out_len = simp (length-take, length-drop) (omega (arith, st.requires.ready.4.long, (room st).all)) }

pub returns : goal.returns
unfolding node
returns c =
    let st = (goal.at.returns c).Start in
    let a = st.args in
    let p = st.requires.run_fits in
    let R = st.requires.ready.0 in
    let H = helped (goal.at.returns c).Start in
    let b = length a.dead.now * a.told in
    let last : List ℕ = c.hand_out.new.out in
    let w = run_handed R _ _ _ H _ _ p.0 p.1 _ _ p.2 c.gather-sent.ensures true _ _ c.hand_out.ensures in
    let q : length last ≡ length a.wire.now - b = w.long ∙ simp (length-take, length-drop) (omega arith) in
    record {
      own = rw (lent (goal.at.returns c).Start) at
          (run_owned R _ _ _ H _ _ p.0 p.1 _ _ p.2 c.gather-sent.ensures (own_place a.g.shape a.dead.now a.u) (own_apart (ready_dead R) _ st.requires.ready.1) _ _ _ _ _ _ _
          c.put_entry.ensures c.put_entry-2.ensures p.3.one p.3.other);
      long = tail_length b a.wire.now (fits st) last q;
      head = rw (← (room st).all) (tail_front b a.wire.now (fits st) last q);
      sent = tail_put a.g.shape a.dead.now b a.wire.now last (room st).all (fits st) (rw (lent (goal.at.returns c).Start) at w);
    }
