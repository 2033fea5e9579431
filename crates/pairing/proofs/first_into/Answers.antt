-- `pairing::first_into` meets its contract: the first step is made with a table of its own. Assumes nothing.
use Rattle.classes.proofs.Layouts.{bounded}
use Rattle.pairing.proofs.first_into.Goals as goal

pub with_table-requires-clause-fits : goal.with_table-requires-clause-fits
with_table-requires-clause-fits c = (bounded c.requires.ready.0).places_high
