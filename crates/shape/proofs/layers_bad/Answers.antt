-- `shape::layers_bad` meets its contract: the test is the definition's. Assumes nothing.
use mathlib.Core.Path.{refl}
use Rattle.shape.specs.Refusals.{layers_bad}
use Rattle.shape.proofs.layers_bad.Goals as goal

pub returns : goal.returns
unfolding layers_bad
returns c = refl
