-- `patterns::represent` meets its contract. Assumes nothing.
use Rattle.lists.specs.Lists.{element}
use Rattle.patterns.proofs.represent.Goals as goal

pub returns : goal.returns
returns c =
    let w = c.numbers_of-each in
    let e = c.count-few.ensures in
    record { few = c.requires.2; each = element w.result; stands = λ p h. w.ensures.1 p (rw e h); held = rw e at c.multipliers_at.ensures }
