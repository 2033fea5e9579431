-- `shape::symbol_bad` meets its contract: all symbols are below q where none was not, and all that are left are. Assumes nothing.
use mathlib.Core.Path.{ap, ◌∙◌}
use mathlib.Core.Bool.{not, ◌&&◌}
use native.Mathlib.Omega.{arith}
use borrow.Author.Rules.{rules}
use Rattle.lists.proofs.Scans.{all_end}
use Rattle.shape.specs.Refusals.{symbol_bad}
use Rattle.shape.proofs.Symbols.{bad_more, bad_all}
use Rattle.shape.proofs.symbol_bad.Goals as goal

pub overflow_cast-bad : goal.overflow_cast-bad
overflow_cast-bad c = omega (arith, c.type_inv.symbols c.loop-symbol.symbol-index)

pub loop-symbol-preserved : goal.loop-symbol-preserved
loop-symbol-preserved c = let l = c.loop-symbol in (search rules, bad_more _ l.symbol-index _ l.bad (omega arith) l.invariant.1)

pub returns : goal.returns
unfolding symbol_bad
returns c = bad_all _ _ (c.loop-symbol.invariant.1 ∙ ap (λ z. not c.loop-symbol.bad && z) (all_end _ _ c.loop-symbol.symbol-index (omega arith)))
