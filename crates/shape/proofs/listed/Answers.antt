-- `shape::listed` meets its contract: x is in the list where it is in what is left of it. Assumes nothing.
use mathlib.Core.Path.{sym, ◌∙◌}
use borrow.Author.Rules.{rules}
use Rattle.lists.proofs.Searches.{search_found, search_pass, search_end}
use Rattle.shape.proofs.listed.Goals as goal

pub returns-then-x-node : goal.returns-then-x-node
returns-then-x-node c =
    sym (c.loop-node.invariant.1 ∙ search_found _ _ _ c.loop-node-test.true c.if-x-node.true)

pub loop-node-preserved : goal.loop-node-preserved
loop-node-preserved c =
    (search rules, c.loop-node.invariant.1 ∙ search_pass _ _ _ c.loop-node-test.true c.if-x-node.false)

pub returns : goal.returns
returns c = sym (c.loop-node.invariant.1 ∙ search_end _ _ _ c.loop-node-test.false)
