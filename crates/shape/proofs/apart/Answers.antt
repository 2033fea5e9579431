-- `shape::apart` meets its contract. Assumes nothing.
use mathlib.Core.Path.{◌∙◌}
use Rattle.std.proofs.Common.{rules}
use Rattle.std.proofs.lemmas.Iterator.{YieldsList-from_slice}
use Rattle.std.proofs.lemmas.Iterator.Search.{all_from_yields_List}
use Rattle.lists.specs.Lists.{outside}
use Rattle.lists.proofs.Words.{all_passes}
use Rattle.shape.proofs.apart.Goals as goal

pub returns : goal.returns
unfolding outside
returns c = all_from_yields_List (outside c.args.dead.now) _ _ _ c.all.ensures.ran (YieldsList-from_slice _ cc) (λ x b q k. search rules) ∙ all_passes _ _
