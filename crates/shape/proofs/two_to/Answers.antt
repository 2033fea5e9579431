-- `shape::two_to` meets its contract: a shift of 1 by n is exact where n is below the width. Assumes nothing.
use mathlib.Core.Path.{◌∙◌}
use native.Mathlib.Nat.{one-mul}
use native.Mathlib.Omega.{arith}
use lib.Pow.{shl_exact}
use lib.Dec.{lit<}
use Rattle.shape.proofs.two_to.Goals as goal

pub returns : goal.returns
returns c = shl_exact {a = 1} 1 c.args.n 64 (lit< tt) (omega arith) ∙ one-mul _
