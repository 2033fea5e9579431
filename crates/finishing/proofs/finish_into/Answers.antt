-- `finishing::finish_into` meets its contract: the sums are finished with a table of its own. Assumes nothing.
use Rattle.classes.proofs.Layouts.{bounded}
use Rattle.finishing.proofs.finish_into.Goals as goal

pub with_table-requires-clause-fits : goal.with_table-requires-clause-fits
with_table-requires-clause-fits c = (bounded c.requires.ready).places_high
