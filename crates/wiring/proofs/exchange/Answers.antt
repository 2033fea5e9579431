-- `wiring::exchange` meets its contract: the first steps of the ranks passed are done. Assumes nothing.
use mathlib.Core.Path.{refl, ◌∙◌}
use Prim.Native.Nat.{◌+◌, ◌*◌, ◌≤◌}
use native.Mathlib.Nat.{mul-le-mul}
use native.Mathlib.Omega.{arith}
use lib.ListN.{length, get_or, length-take, length-drop}
use Rattle.shape.specs.Shape.{most_nodes}
use Rattle.shape.proofs.Accepted.{shape_accepted, most_size}
use Rattle.classes.specs.Classes.{node}
use Rattle.wiring.specs.Wires.{Wired}
use Rattle.classes.proofs.Layouts.{ready_dead, node_high}
use Rattle.lists.proofs.Parts.{row_within}
use Rattle.wiring.proofs.OnWire.{to_rank_front}
use Rattle.wiring.proofs.Ranked.{exchanging_none, exchanging_more, exchanging_end}
use Rattle.wiring.proofs.exchange.Goals as goal
use Rattle.wiring.proofs.exchange.Goals.{In-loop-u}

pub size-full-requires : goal.size-full-requires
size-full-requires c = c.requires.0.shaped

pub loop-u-init : goal.loop-u-init
loop-u-init c = (exchanging_none _ _ _ _ _, refl)

-- the rank's node is within the nodes
within : (c : In-loop-u) →
    let a = c.args in
    let i = get_or a.dead.now c.loop-u.u 0 in
    (i * c.size-full.result + c.size-full.result ≤ length c.loop-u.nodes) × (length c.loop-u.nodes ≤ most_nodes * most_size)
unfolding node
within c =
    let l = c.loop-u in
    let e = c.size-full.ensures in
    let h = shape_accepted _ c.requires.0.shaped in
    let i_low = (node_high c.requires.0 l.u (omega arith)).0 in
    (rw (e, l.invariant.0.nodes_long, c.requires.2) (row_within _ _ _ i_low), omega (arith, l.invariant.0.nodes_long, c.requires.2, mul-le-mul h.n_high h.size_high))

pub overflow_mul-at : goal.overflow_mul-at
overflow_mul-at c = omega (arith, within (goal.at.overflow_mul-at c).In-loop-u)

pub overflow_add-end : goal.overflow_add-end
overflow_add-end c = omega (arith, within (goal.at.overflow_add-end c).In-loop-u)

pub offset_bounds-nodes-at : goal.offset_bounds-nodes-at
offset_bounds-nodes-at c = omega (arith, within (goal.at.offset_bounds-nodes-at c).In-loop-u)

pub slice_bounds-first_on_wire-end : goal.slice_bounds-first_on_wire-end
slice_bounds-first_on_wire-end c = (within (goal.at.slice_bounds-first_on_wire-end c).In-loop-u).0

-- the wire as the rank finds it
wired : (c : In-loop-u) → let a = c.args in Wired a.g.shape a.dead.now a.helpers.now c.loop-u.wire
wired c =
    let E = c.loop-u.invariant.0 in
    let R = c.requires.3 in
    record {
      long = E.long ∙ R.long;
      helped = λ u l. rw (to_rank_front _ _ u _ _ l (omega (arith, E.long, R.long)) (omega (arith, R.long)) E.head) (R.helped u l);
    }

pub first_on_wire-requires : goal.first_on_wire-requires
first_on_wire-requires c =
    let i = (goal.at.first_on_wire-requires c).In-loop-u in
    (c.requires.0, omega arith, c.requires.1, simp (length-take, length-drop) (omega (arith, within i, i.size-full.ensures)), wired i, omega (arith, c.requires.4, i.loop-u.invariant.1))

pub loop-u-preserved : goal.loop-u-preserved
unfolding node
loop-u-preserved c =
    let a = c.args in
    let l = c.loop-u in
    let F = c.first_on_wire.ensures in
    let u_low = c.loop-u-test.true in (
      rw c.size-full.ensures
          (exchanging_more a.g.shape a.dead.now a.helpers.now (ready_dead c.requires.0) l.u (omega (arith, u_low)) a.nodes.now l.nodes a.wire.now l.wire _ _
          c.requires.2 (omega (arith, c.requires.3.long)) F.own.long l.invariant.0 F),
      c.first_on_wire.auto.class ∙ l.invariant.1,
    )

pub returns : goal.returns
returns c = let l = c.loop-u in exchanging_end _ _ _ l.u _ _ _ _ (omega arith) l.invariant.0
