-- `stretches::walk` meets its contract. Assumes nothing.
use lib.Pow.{pow_pos}
use mathlib.Core.Path.{◌≡◌, refl, sym, ◌∙◌}
use Prim.Native.Nat.{◌+◌, ◌*◌, ◌^◌}
use native.Mathlib.Omega.{arith}
use Rattle.shape.proofs.Accepted.{shape_accepted}
use Rattle.rows.proofs.Rows.{low_replicate}
use Rattle.tables.specs.Tables.{table_size}
use Rattle.stretches.specs.Steps.{Uncut}
use Rattle.stretches.proofs.Judging.{shape_small, bounded_weak, wanted_bounded}
use Rattle.stretches.proofs.Runs.{uncut_less}
use Rattle.stretches.proofs.Walks.{below_none, below_skip, below_more, below_end, below_all}
use borrow.Author.Rules.{rules}
use Rattle.stretches.proofs.walk.Goals as goal
use Rattle.stretches.proofs.walk.Goals.{After-run_from-run}

-- the run that is worked out together
cut : (c : After-run_from-run) → Uncut c.args.stretches.now (2 ^ c.args.s.n) c.loop-a.a (c.loop-a.a + c.run_from-run.result)
cut c =
    let r = c.run_from-run.ensures in
    uncut_less _ _ _ _ _ (rw c.two_to-two.ensures at c.next_cut-end.ensures) r.0 r.2

pub two_to-two-requires : goal.two_to-two-requires
two_to-two-requires c = (shape_accepted _ c.requires.0.shape).n_high

pub size-requires : goal.size-requires
size-requires c = c.requires.0.shape

pub overflow_mul-most : goal.overflow_mul-most
overflow_mul-most c = rw c.size.ensures (omega (arith, (shape_small _ c.requires.0.shape).bytes))

pub loop-a-init : goal.loop-a-init
loop-a-init c =
    let p = c.requires in
    (search rules, refl, low_replicate _ table_size 0 (omega arith), below_none _ _ _ _ _ _ (wanted_bounded _ _ p.0.bounded) _)

pub next_cut-end-requires : goal.next_cut-end-requires
next_cut-end-requires c =
    let p = c.requires in
    (bounded_weak _ _ _ (omega (arith, (shape_small _ p.0.shape).bytes)) p.0.bounded, c.loop-a-test.true)

pub next_wanted-requires : goal.next_wanted-requires
next_wanted-requires c =
    let p = c.requires in
    let w = shape_small _ p.0.shape in
    let h = rw c.two_to-two.ensures at c.loop-a-test.true in
    rw (c.size.ensures, c.two_to-two.ensures) (p.0.bounded, omega (arith, w.bytes), h, omega (arith, w.layer), omega arith)

pub loop-a-smaller-then-most-next_wanted : goal.loop-a-smaller-then-most-next_wanted
loop-a-smaller-then-most-next_wanted c = let n = c.next_cut-end.ensures in omega (arith, n.on, n.upto)

pub loop-a-preserved-then-most-next_wanted : goal.loop-a-preserved-then-most-next_wanted
loop-a-preserved-then-most-next_wanted c =
    let l = c.loop-a in
    let p = c.requires in
    let n = c.next_cut-end.ensures in
    let b = c.next_wanted.ensures in
    let e : c.next_wanted.result ≡ c.args.s.k * c.size.result = omega (arith, b.upto, c.if-most-next_wanted.true) in (
      n.upto,
      l.invariant.1,
      l.invariant.2,
      below_skip _ _ _ _ _ _ (wanted_bounded _ _ p.0.bounded) _ _ _ _ (rw c.two_to-two.ensures at n) (rw (c.size.ensures, c.two_to-two.ensures) at (rw e at b)) l.invariant.3,
    )

pub run_from-run-requires : goal.run_from-run-requires
run_from-run-requires c = c.next_cut-end.ensures.on

pub slice_bounds-run_multipliers-end : goal.slice_bounds-run_multipliers-end
slice_bounds-run_multipliers-end c = sym c.loop-a.invariant.1

pub run_multipliers-requires : goal.run_multipliers-requires
run_multipliers-requires c =
    let p = c.requires in
    let w = shape_accepted _ p.0.shape in
    let r = c.run_from-run.ensures in
    let n = rw c.two_to-two.ensures at c.next_cut-end.ensures.upto in
    let l = c.loop-a in
    (w.n_high, omega (arith, w.k_high), r.1, omega (arith, r.2, n), p.0.up, p.1, p.2, l.invariant.1, l.invariant.2)

pub slice_bounds-open_rows-end : goal.slice_bounds-open_rows-end
slice_bounds-open_rows-end c = sym c.run_multipliers.ensures.long

pub open_rows-requires : goal.open_rows-requires
open_rows-requires c =
    let p = c.requires in
    let f = (goal.at.open_rows-requires c).After-run_from-run in
    let m = c.run_multipliers.ensures in
    record { legible = (p.0, p.1, f.run_from-run.ensures.0, f.run_from-run.ensures.1, cut f); table_len = (m.long, m.low, m, p.3, omega (arith, p.4, c.loop-a.invariant.3.long)) }

pub shape_of-bytes-then-not-open_rows : goal.shape_of-bytes-then-not-open_rows
shape_of-bytes-then-not-open_rows c = c.open_rows.ensures.long ∙ c.loop-a.invariant.3.long

pub returns-then-not-open_rows : goal.returns-then-not-open_rows
returns-then-not-open_rows c =
    let p = c.requires in
    below_end _ _ _ _ _ _ (wanted_bounded _ _ p.0.bounded) _ _ _ _ _ _ c.if-not-open_rows.true c.loop-a.invariant.3 c.open_rows.ensures

pub overflow_add-a : goal.overflow_add-a
overflow_add-a c = let r = c.run_from-run.ensures in let n = c.next_cut-end.ensures in omega (arith, r.2, n.upto, c.two_to-two.ensures, (shape_small _ c.requires.0.shape).layer)

pub loop-a-smaller : goal.loop-a-smaller
loop-a-smaller c = let r = c.run_from-run.ensures in let n = c.next_cut-end.ensures in omega (arith, r.0, r.2, n.upto)

pub loop-a-preserved : goal.loop-a-preserved
loop-a-preserved c =
    let p = c.requires in
    let r = c.run_from-run.ensures in
    let m = c.run_multipliers.ensures in (
      omega (arith, r.2, c.next_cut-end.ensures.upto),
      m.long,
      m.low,
      below_more _ _ _ _ _ _ (wanted_bounded _ _ p.0.bounded) _ _ _ _ _ _ c.if-not-open_rows.false c.loop-a.invariant.3 c.open_rows.ensures,
    )

pub shape_of-bytes : goal.shape_of-bytes
shape_of-bytes c = c.loop-a.invariant.3.long

pub returns : goal.returns
returns c =
    let l = c.loop-a in
    below_all _ _ _ _ _ _ (wanted_bounded _ _ c.requires.0.bounded) _ l.a _ (pow_pos c.args.s.n) (rw c.two_to-two.ensures at c.loop-a-test.false) l.invariant.3
