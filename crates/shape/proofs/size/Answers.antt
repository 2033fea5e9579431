-- `shape::size` meets its contract: the ranges of a shape bound the product. Assumes nothing.
use native.Mathlib.Omega.{arith}
use Rattle.shape.specs.Shape.{size}
use Rattle.shape.proofs.Accepted.{shape_accepted}
use Rattle.shape.proofs.size.Goals as goal

pub two_to-requires : goal.two_to-requires
two_to-requires c = (shape_accepted _ c.requires).n_high

pub overflow_mul-result : goal.overflow_mul-result
unfolding size
overflow_mul-result c = rw c.two_to.ensures (omega (arith, (shape_accepted _ c.requires).size_high))

pub returns : goal.returns
unfolding size
returns c = rw c.two_to.ensures
