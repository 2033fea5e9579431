-- `batches::cross_run` meets its contract. Assumes nothing.
use Prim.Native.Nat.{◌+◌, ◌-◌}
use native.Mathlib.Omega.{arith}
use lib.ListN.{length, length-take, length-drop}
use Rattle.rows.proofs.Rows.{low_part}
use Rattle.code.specs.Code.{narrow}
use Rattle.batches.proofs.Batches.{row_far, row_part, row_crossed}
use Rattle.batches.proofs.cross_run.Goals as goal

pub differences-requires : goal.differences-requires
differences-requires c =
    let p = c.requires in
    let w = c.args.x + length c.args.left.now - c.args.x in (
      simp (length-take, length-drop) (omega (arith, p.apart.1)),
      simp (length-take, length-drop) (omega (arith, p.apart.1, p.apart.2)),
      low_part _ w c.args.x _ p.low.0,
      row_part _ _ c.args.x w _ (omega arith) p.low.1 (omega (arith, p.apart.1)),
    )

pub store_row-requires : goal.store_row-requires
store_row-requires c =
    let p = c.requires in
    let n = c.differences.auto.left in
    (omega (arith, n, p.apart.1, p.apart.2), λ i h. row_far _ (c.args.x + i) (omega (arith, n, p.apart.1)) p.apart.0)

pub returns : goal.returns
returns c =
    let d = c.differences in
    row_crossed narrow _ c.args.x _ _ _ _ c.args.left.now _ _ c.requires.apart.1 d.ensures d.auto.left c.store_row.ensures
