-- `classes::among` meets its contract: by which of the two is lower. Assumes nothing.
use borrow.Author.Tests.{lt-ltb, le-ltb}
use Rattle.classes.specs.Steps.{place}
use Rattle.classes.proofs.among.Goals as goal

pub returns-then-v-u : goal.returns-then-v-u
unfolding place
returns-then-v-u c = rw (lt-ltb _ _ c.if-v-u.true)

pub returns-else-v-u : goal.returns-else-v-u
unfolding place
returns-else-v-u c = rw (le-ltb _ _ c.if-v-u.false)
