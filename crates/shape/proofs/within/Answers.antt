-- `shape::within` meets its contract: the tests are the definition's. Assumes nothing.
use mathlib.Core.Path.{refl}
use Rattle.shape.specs.Shape.{within}
use Rattle.shape.proofs.within.Goals as goal

pub returns : goal.returns
unfolding within
returns c = refl
