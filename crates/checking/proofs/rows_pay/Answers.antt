-- `checking::rows_pay` is safe. Assumes nothing.
use native.Mathlib.Omega.{arith}
use Rattle.shape.proofs.Accepted.{shape_accepted}
use Rattle.checking.proofs.rows_pay.Goals as goal

pub overflow_add-n : goal.overflow_add-n
overflow_add-n c = let w = shape_accepted _ c.requires in omega (arith, w.n_high, w.layers_high)

pub marks-requires : goal.marks-requires
marks-requires c = omega (arith, (shape_accepted _ c.requires).n_high)

pub pays-requires : goal.pays-requires
pays-requires c = (shape_accepted _ c.requires).n_high
