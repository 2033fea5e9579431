-- `steps::message_to` meets its contract: the message is made with a table of its own. Assumes nothing.
use Rattle.classes.proofs.Layouts.{bounded}
use Rattle.steps.proofs.message_to.Goals as goal

pub with_table-requires-clause-fits : goal.with_table-requires-clause-fits
with_table-requires-clause-fits c = (bounded c.requires.0).places_high
