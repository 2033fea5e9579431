-- `transfers::other_rank` meets its contract: the test is the definition's. Assumes nothing.
use mathlib.Core.Path.{sym}
use Rattle.lists.proofs.Tests.{cond_below, cond_beyond}
use Rattle.classes.specs.Steps.{other_rank}
use Rattle.transfers.proofs.other_rank.Goals as goal

pub returns-then-j-u : goal.returns-then-j-u
unfolding other_rank
returns-then-j-u c = sym (cond_below _ _ _ _ c.if-j-u.true)

pub returns : goal.returns
unfolding other_rank
returns c = sym (cond_beyond _ _ _ _ c.if-j-u.false)
