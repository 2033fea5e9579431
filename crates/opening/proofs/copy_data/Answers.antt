-- `opening::copy_data` meets its contract. Assumes nothing.
use mathlib.Core.Path.{sym}
use Prim.Native.Nat.{◌+◌, ◌<◌}
use native.Mathlib.Omega.{arith}
use lib.Seq.{length-take-le, get_or-take}
use lib.ListN.{length}
use Rattle.code.proofs.Opening.{fits_byte}
use Rattle.opening.proofs.Judged.{copy_turned_back, data_copied}
use Rattle.opening.proofs.copy_data.Goals as goal

pub returns-then-not-row_fits : goal.returns-then-not-row_fits
returns-then-not-row_fits c = λ s list input last. copy_turned_back s list _ _ input last (c.row_fits.ensures.not_each c.if-not-row_fits.true)

pub slice_bounds-store_bytes-end : goal.slice_bounds-store_bytes-end
slice_bounds-store_bytes-end c = sym (length-take-le _ _ c.requires)

pub store_bytes-requires : goal.store_bytes-requires
store_bytes-requires c =
    λ t h.
    let l : t < length c.args.transcript.now = rw (length-take-le _ _ c.requires) at h in
    let z : 0 + t < length c.args.transcript.now = omega arith in
    (z, rw (get_or-take _ c.args.symbols.now t 0 l) (fits_byte _ _ _ z (c.row_fits.ensures.each c.if-not-row_fits.false t (omega (arith, c.requires)))))

pub shape_of-transcript : goal.shape_of-transcript
shape_of-transcript c = c.store_bytes.ensures.long

pub returns : goal.returns
returns c =
    let put = rw (length-take-le _ _ c.requires) at c.store_bytes.ensures in
    λ z list input last. data_copied z list _ _ input last _ (c.row_fits.ensures.each c.if-not-row_fits.false) put
