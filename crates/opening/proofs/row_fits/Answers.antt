-- `opening::row_fits` meets its contract. Assumes nothing.
use mathlib.Core.Path.{sym}
use lib.Seq.{length-take-le}
use Rattle.opening.proofs.Fitting.{row_judged}
use Rattle.opening.proofs.row_fits.Goals as goal

pub slice_bounds-symbol_bad-end : goal.slice_bounds-symbol_bad-end
slice_bounds-symbol_bad-end c = sym (length-take-le _ _ c.before_end-within.ensures.few)

pub returns : goal.returns
returns c = row_judged _ _ _ _ c.before_end-within.ensures _ _ c.symbol_bad.ensures c.symbol_bad-2.ensures
