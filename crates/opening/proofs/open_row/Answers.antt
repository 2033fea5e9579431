-- `opening::open_row` meets its contract. Assumes nothing.
use mathlib.Core.Path.{sym}
use Prim.Native.Nat.{◌<◌}
use native.Mathlib.Omega.{arith}
use lib.Seq.{length-take-le, get_or-take}
use Rattle.code.proofs.Opening.{fits_byte}
use Rattle.opening.proofs.Walking.{row_misfit, row_walked}
use Rattle.opening.proofs.open_row.Goals as goal

pub returns-then-not-row_fits : goal.returns-then-not-row_fits
returns-then-not-row_fits c =
    let a = c.args in
    λ D same. row_misfit D a.len a.room a.at a.row.now a.transcript.now same (c.row_fits.ensures.not_each c.if-not-row_fits.true)

pub slice_bounds-store_bytes-end : goal.slice_bounds-store_bytes-end
slice_bounds-store_bytes-end c = sym (length-take-le _ _ c.before_end-count.ensures.few)

pub store_bytes-requires : goal.store_bytes-requires
store_bytes-requires c =
    let v = c.before_end-count.ensures in
    let each = c.row_fits.ensures.each c.if-not-row_fits.false in
    λ t h.
    let l : t < c.before_end-count.result = rw (length-take-le _ _ v.few) at h in
    let m = v.before t l in
    (omega (arith, c.requires.1), rw (get_or-take _ c.args.row.now t 0 l) (fits_byte _ _ _ (omega (arith, c.requires.0)) (each t (omega (arith, v.few)))))

pub shape_of-transcript : goal.shape_of-transcript
shape_of-transcript c = c.store_bytes.ensures.long

pub returns : goal.returns
returns c =
    let a = c.args in
    let v = c.before_end-count.ensures in
    let put = rw (length-take-le _ _ v.few) at c.store_bytes.ensures in
    λ D same. row_walked D a.len a.room a.at a.row.now a.transcript.now same _ _ (c.row_fits.ensures.each c.if-not-row_fits.false) v put
