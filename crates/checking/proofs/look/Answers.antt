-- `checking::look` meets its contract: the answer of the equations, otherwise that of the data symbols. Assumes nothing.
use mathlib.Core.Path.{ap₂, ◌∙◌}
use Rattle.std.specs.Option.{option_or}
use Rattle.checking.specs.Promises.{check_answer}
use Rattle.checking.proofs.look.Goals as goal

pub returns : goal.returns
unfolding check_answer
returns c = c.or.ensures ∙ ap₂ option_or c.search-equations.ensures c.first_high-symbols.ensures
