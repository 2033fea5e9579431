-- `stretches::open_rows` meets its contract. Assumes nothing.
use Rattle.stretches.proofs.Runs.{next_later}
use mathlib.Core.Path.{◌≡◌, sym, ◌∙◌}
use Prim.Native.Nat.{◌%◌, ◌^◌}
use native.Mathlib.Omega.{arith}
use lib.ListN.{length, take}
use lib.Seq.{length-take-le, get_or-take}
use Rattle.shape.proofs.Accepted.{shape_accepted}
use Rattle.filling.specs.Filling.{InRun}
use Rattle.opening.specs.Steps.{opened, Walked}
use Rattle.stretches.specs.Steps.{Wanted, byte_at, ComeOut}
use Rattle.stretches.proofs.Judging.{shape_small, bounded_weak, wanted_bounded}
use Rattle.stretches.proofs.Rows.{run_fits, run_whole, run_low, run_factors}
use Rattle.stretches.proofs.Walks.{runs_none, runs_more, runs_end, runs_all}
use Rattle.stretches.proofs.open_rows.Goals as goal
use Rattle.stretches.proofs.open_rows.Goals.{After-data_row-row, After-place_row, In-loop-b}

-- a run's first byte
at : (c : In-loop-b) → let a = c.args in (c.loop-b.b % 2 ^ a.s.n ≡ a.a) × Wanted a.stretches.now c.loop-b.b
at c = c.loop-b.invariant.1 c.loop-b-test.true

-- a row of the run
long : (c : After-data_row-row) → length (take c.args.run c.data_row-row.result) ≡ c.args.run
long c = length-take-le _ _ (omega (arith, c.data_row-row.ensures.0, c.requires.legible.3))

-- what was done with it
walked : (c : After-place_row) → let a = c.args in
    Walked (λ e. opened a.s a.list.now a.symbols.now (byte_at a.stretches.now e)) a.len a.room (ComeOut a.stretches.now (InRun c.loop-b.b a.run)) c.loop-b.bytes c.place_row.new.bytes c.place_row.result
walked c =
    let a = c.args in
    let z = (goal.at.After-place_row c).After-data_row-row in
    let f = at (goal.at.After-place_row c).In-loop-b in
    rw (long z) at (c.place_row.ensures (opened a.s a.list.now a.symbols.now) (λ t h.
    let g = rw (long z) at h in
    z.data_row-row.ensures.1 (run_factors _ _ _ _ c.requires.legible.0 _ _ c.requires.legible.4 _ f.1 f.0 _ c.requires.table_len.2) t g ∙ sym (get_or-take a.run z.data_row-row.result t 0 g)))

pub two_to-two-requires : goal.two_to-two-requires
two_to-two-requires c = (shape_accepted _ c.requires.legible.0.shape).n_high

pub size-requires : goal.size-requires
size-requires c = c.requires.legible.0.shape

pub overflow_mul-most : goal.overflow_mul-most
overflow_mul-most c = rw c.size.ensures (omega (arith, (shape_small _ c.requires.legible.0.shape).bytes))

pub next_wanted-b-requires : goal.next_wanted-b-requires
next_wanted-b-requires c =
    let p = c.requires in
    let w = shape_small _ p.legible.0.shape in
    rw (c.size.ensures, c.two_to-two.ensures) (p.legible.0.bounded, omega (arith, w.bytes), omega (arith, p.legible.4.on, p.legible.4.upto), omega (arith, w.layer), omega arith)

pub loop-b-init : goal.loop-b-init
loop-b-init c =
    let p = c.requires in
    let n = c.next_wanted-b.ensures in (
      n.upto,
      λ h. (rw c.two_to-two.ensures at (n.leaves h), n.there h),
      runs_none _ _ _ _ _ _ (wanted_bounded _ _ p.legible.0.bounded) _ _ _ _ (omega arith) p.legible.4 _ (rw (c.size.ensures, c.two_to-two.ensures) at n),
    )

pub data_row-row-requires : goal.data_row-row-requires
data_row-row-requires c =
    let p = c.requires in
    let g = p.legible.0 in
    let f = at c in
    let h = rw c.size.ensures at c.loop-b-test.true in
    record { placed = (g.shape, g.up, g.count, p.legible.1, h, p.legible.3, run_fits _ _ _ _ g _ _ p.legible.4 _ f.1 f.0); table_len = (p.table_len.0, p.table_len.1, g.long, run_low _ _ _ _ g _ _ p.legible.4 _ f.1 f.0) }

pub slice_bounds-row-end : goal.slice_bounds-row-end
slice_bounds-row-end c = omega (arith, c.data_row-row.ensures.0, c.requires.legible.3)

pub slice_bounds-place_row-end : goal.slice_bounds-place_row-end
slice_bounds-place_row-end c = sym (length-take-le _ _ (omega (arith, c.data_row-row.ensures.0, c.requires.legible.3)))

pub place_row-requires : goal.place_row-requires
place_row-requires c =
    let p = c.requires in
    let g = p.legible.0 in
    let f = at (goal.at.place_row-requires c).In-loop-b in
    (bounded_weak _ _ _ (omega (arith, (shape_small _ g.shape).bytes)) g.bounded, rw (long (goal.at.place_row-requires c).After-data_row-row) (run_whole _ _ _ _ g _ _ p.legible.4 _ f.1 f.0), p.table_len.3, omega (arith, p.table_len.4, c.loop-b.invariant.2.long))

pub shape_of-bytes-then-not-place_row : goal.shape_of-bytes-then-not-place_row
shape_of-bytes-then-not-place_row c = let w = (goal.at.shape_of-bytes-then-not-place_row c).After-place_row in (walked w).long ∙ w.loop-b.invariant.2.long

pub returns-then-not-place_row : goal.returns-then-not-place_row
returns-then-not-place_row c =
    let w = (goal.at.returns-then-not-place_row c).After-place_row in
    let f = at (goal.at.returns-then-not-place_row c).In-loop-b in
    runs_end _ _ _ _ _ _ (wanted_bounded _ _ w.requires.legible.0.bounded) _ _ _ _ (omega arith) w.requires.legible.4 w.loop-b.b _ _ _ f.0 c.if-not-place_row.true w.loop-b.invariant.2 (walked w)

pub overflow_add-b : goal.overflow_add-b
overflow_add-b c =
    let h = rw c.size.ensures at c.loop-b-test.true in
    omega (arith, h, (shape_small _ c.requires.legible.0.shape).bytes)

pub next_wanted-b-requires-in-loop-b : goal.next_wanted-b-requires-in-loop-b
next_wanted-b-requires-in-loop-b c =
    let p = c.requires in
    let w = shape_small _ p.legible.0.shape in
    let h = rw c.size.ensures at c.loop-b-test.true in
    rw (c.size.ensures, c.two_to-two.ensures) (p.legible.0.bounded, omega (arith, w.bytes), omega (arith, p.legible.4.on, p.legible.4.upto), omega (arith, w.layer), omega (arith, h, w.bytes))

pub loop-b-smaller : goal.loop-b-smaller
loop-b-smaller c = omega (arith, c.next_wanted-b-in-loop-b.ensures.upto, next_later _ _ _ _ _ _ c.loop-b-test.true c.next_wanted-b-in-loop-b.ensures)

pub loop-b-preserved : goal.loop-b-preserved
loop-b-preserved c =
    let v = (goal.at.loop-b-preserved c).After-place_row in
    let p = v.requires in
    let f = at (goal.at.loop-b-preserved c).In-loop-b in
    let n = c.next_wanted-b-in-loop-b.ensures in (
      n.upto,
      λ h. (rw v.two_to-two.ensures at (n.leaves h), n.there h),
      runs_more _ _ _ _ _ _ (wanted_bounded _ _ p.legible.0.bounded) _ _ _ _ (omega arith) p.legible.4 v.loop-b.b _ (rw v.size.ensures at v.loop-b-test.true) f.0 (rw (v.size.ensures, v.two_to-two.ensures) at n) _ _ _ c.if-not-place_row.false v.loop-b.invariant.2 (walked v),
    )

pub shape_of-bytes : goal.shape_of-bytes
shape_of-bytes c = c.loop-b.invariant.2.long

pub returns : goal.returns
returns c =
    let l = c.loop-b in
    runs_all _ _ _ _ _ _ (wanted_bounded _ _ c.requires.legible.0.bounded) _ _ _ _ (omega arith) c.requires.legible.4 l.b _ (rw c.size.ensures at c.loop-b-test.false) l.invariant.2
