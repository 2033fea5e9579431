-- `repair::refill` meets its contract: the nodes are refilled with a table of its own. Assumes nothing.
use Rattle.classes.proofs.Layouts.{bounded}
use Rattle.repair.proofs.refill.Goals as goal

pub with_table-requires-clause-fits : goal.with_table-requires-clause-fits
with_table-requires-clause-fits c = (bounded c.requires.1).places_high
