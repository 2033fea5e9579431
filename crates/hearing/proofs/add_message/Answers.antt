-- `hearing::add_message` meets its contract: the message is added with a table of its own. Assumes nothing.
use Rattle.classes.proofs.Layouts.{bounded}
use Rattle.hearing.proofs.add_message.Goals as goal

pub with_table-requires-clause-fits : goal.with_table-requires-clause-fits
with_table-requires-clause-fits c = (bounded c.requires.ready).places_high
