-- `wiring::first_on_wire` meets its contract: the sums of the members passed are done, in every batch. Assumes nothing.
use mathlib.Core.Path.{refl, sym, ◌∙◌}
use Prim.Native.Nat.{ℕ, ◌+◌, ◌^◌, ◌≤◌, ◌<◌}
use native.Mathlib.Omega.{arith}
use lib.ListN.{length}
use Rattle.rows.proofs.Rows.{low_replicate}
use Rattle.tables.specs.Tables.{table_size}
use Rattle.filling.specs.Filling.{Below}
use Rattle.classes.specs.Classes.{rank_class, members, message_size}
use Rattle.classes.specs.Layout.{Fronted}
use Rattle.solving.specs.Solving.{Helped}
use Rattle.solving.proofs.Entries.{Classed, classed, all_passed}
use Rattle.wiring.specs.Wires.{to_rank}
use Rattle.wiring.proofs.Passing.{offsets_are, on_wire_none, on_wire_run, on_wire_end, still_wired}
use Rattle.wiring.proofs.first_on_wire.Goals as goal
use Rattle.wiring.proofs.first_on_wire.Goals.{After-class_size-count, After-list_members, After-run_from-run, Start}

pub loop-first-init : goal.loop-first-init
loop-first-init c =
    let p = c.requires in (omega arith, refl, low_replicate _ table_size 0 (omega arith), on_wire_none p.0 _ _ p.1 _ _ _ (λ x h d. omega (arith, d)))

-- the members of the rank's class
whole : (c : After-class_size-count) → let a = c.args in Classed a.dead.now a.g a.u c.class_size-count.result
whole c = classed c.requires.0 _ _ c.class_size-count.ensures

listed : (c : After-list_members) → let a = c.args in Fronted a.dead.now (rank_class a.dead.now a.u) a.g.shape.n c.list_members.new.out × (a.g.places ≤ length c.list_members.new.out)
listed c = (rw c.rank_class.ensures at c.list_members.ensures, omega (arith, c.requires.5, c.list_members.auto.out))

-- the run is within the class
inside : (c : After-run_from-run) →
    let a = c.args in c.loop-first.first + c.run_from-run.result ≤ length (members a.dead.now (rank_class a.dead.now a.u) (2 ^ a.g.shape.n))
inside c = rw (← (whole (goal.at.After-run_from-run c).After-class_size-count).is) c.run_from-run.ensures.2

helped : (c : Start) → let a = c.args in Helped a.g.shape a.dead.now a.helpers.now a.u (to_rank a.g.shape a.dead.now a.u a.wire.now)
helped c = c.requires.4.helped _ c.requires.1

pub slice_bounds-run_table-end : goal.slice_bounds-run_table-end
slice_bounds-run_table-end c = sym c.loop-first.invariant.1

pub run_table-requires : goal.run_table-requires
run_table-requires c =
    let p = c.requires in
    let H = helped (goal.at.run_table-requires c).Start in
    let l = c.loop-first in
    record { ready = (p.0, p.1, H.rises, H.count, H.apart); fronted = (listed (goal.at.run_table-requires c).After-list_members, c.run_from-run.ensures.1, inside (goal.at.run_table-requires c).After-run_from-run, l.invariant.1, l.invariant.2) }

pub offsets-ones-requires : goal.offsets-ones-requires
offsets-ones-requires c = let p = c.requires in (p.0, p.1, listed (goal.at.offsets-ones-requires c).After-list_members, c.run_from-run.ensures.1, inside (goal.at.offsets-ones-requires c).After-run_from-run, omega arith)

pub offsets-others-requires : goal.offsets-others-requires
offsets-others-requires c = let p = c.requires in (p.0, p.1, listed (goal.at.offsets-others-requires c).After-list_members, c.run_from-run.ensures.1, inside (goal.at.offsets-others-requires c).After-run_from-run, omega arith)

pub slice_bounds-batches_on_wire-end : goal.slice_bounds-batches_on_wire-end
slice_bounds-batches_on_wire-end c = sym c.run_table.ensures.0

pub batches_on_wire-requires : goal.batches_on_wire-requires
batches_on_wire-requires c =
    let p = c.requires in
    let l = c.loop-first in
    let r = c.run_from-run.ensures in
    let w = whole (goal.at.batches_on_wire-requires c).After-class_size-count in record {
      ready = (p.0, p.1, p.2, l.invariant.3.own.long ∙ p.3, still_wired p.0 _ _ p.1 _ l.part l.part _ l.wire l.wire (omega (arith, p.4.long)) _ p.4 l.invariant.3);
      run_fits = (
        r.1,
        r.2,
        w.sums,
        rw w.is c.run_table.ensures.2,
        rw w.is (offsets_are p.0 _ _ _ _ (listed (goal.at.batches_on_wire-requires c).After-list_members).0 (inside (goal.at.batches_on_wire-requires c).After-run_from-run) _ _ (omega (arith, c.offsets-ones.ensures.0, r.1)) (omega (arith, c.offsets-others.ensures.0, r.1)) c.offsets-ones.ensures.1 c.offsets-others.ensures.1),
      );
    }

pub slice_bounds-batches_on_wire-end-in-loop-first : goal.slice_bounds-batches_on_wire-end-in-loop-first
slice_bounds-batches_on_wire-end-in-loop-first c = sym c.offsets-ones.ensures.0

pub slice_bounds-batches_on_wire-end-in-loop-first-2 : goal.slice_bounds-batches_on_wire-end-in-loop-first-2
slice_bounds-batches_on_wire-end-in-loop-first-2 c = sym c.offsets-others.ensures.0

pub overflow_add-first : goal.overflow_add-first
overflow_add-first c = omega (arith, c.run_from-run.ensures.2, (whole (goal.at.overflow_add-first c).After-class_size-count).few)

pub loop-first-smaller : goal.loop-first-smaller
loop-first-smaller c = omega (arith, c.run_from-run.ensures.0, c.loop-first-test.true)

pub loop-first-preserved : goal.loop-first-preserved
loop-first-preserved c =
    let p = c.requires in
    let a = c.args in
    let l = c.loop-first in
    let m = c.run_table.ensures in (
      c.run_from-run.ensures.2,
      m.0,
      m.1,
      on_wire_run p.0 _ _ p.1 _ _ _ _ _ _ (omega (arith, p.4.long)) l.first c.run_from-run.result a.g.batches c.class_size-count.result (whole (goal.at.loop-first-preserved c).After-class_size-count).sums l.invariant.3 c.batches_on_wire.ensures,
    )

pub shape_of-class : goal.shape_of-class
shape_of-class c = c.list_members.auto.out

pub shape_of-part : goal.shape_of-part
shape_of-part c = c.loop-first.invariant.3.own.long

pub shape_of-wire : goal.shape_of-wire
shape_of-wire c = c.loop-first.invariant.3.long

pub returns : goal.returns
returns c =
    let l = c.loop-first in
    let p = c.requires in
    let a = c.args in
    let w = (whole (goal.at.returns c).After-class_size-count).sums in
    let all : (x : ℕ) → x < message_size a.g.shape a.dead.now → Below c.class_size-count.result l.first x = λ x h. all_passed a.g.batches c.class_size-count.result l.first x (omega arith) (rw (← w) h) in
    let e = on_wire_end p.0 _ _ p.1 (Below c.class_size-count.result l.first) _ _ _ _ all p.3 l.invariant.3 in
    record { own = e.0; sent = e.1 }
