-- `patterns::bit` meets its contract. Assumes nothing.
use Rattle.lists.specs.Digits.{bit}
use borrow.Author.Rules.{rules}
use Rattle.patterns.proofs.bit.Goals as goal

pub returns : goal.returns
unfolding bit
returns c = search rules
