-- `ordering::planned` meets its contract: the tests of the lists are those of the definition. Assumes nothing.
use Rattle.ordering.specs.Following.{in_plan}
use Rattle.ordering.proofs.planned.Goals as goal

pub returns : goal.returns
unfolding in_plan
returns c = rw (c.listed.ensures, c.listed-2.ensures, c.listed-3.ensures)
