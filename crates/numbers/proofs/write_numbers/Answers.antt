-- `numbers::write_numbers` meets its contract: the numerals of the numbers that were not reached are still to be written.
use Rattle.lists.proofs.Tests.{all_below_at}
use Rattle.numbers.proofs.Numerals.{numerals_room, numerals_next, numerals_end}
use Rattle.numbers.proofs.write_numbers.Goals as goal

pub write_number-place-requires : goal.write_number-place-requires
write_number-place-requires c =
    let l = c.loop-number in
    (all_below_at _ _ c.requires.0 l.number-index c.loop-number-test.true, numerals_room _ _ _ _ _ _ l.invariant c.requires.1 c.loop-number-test.true)

pub loop-number-preserved : goal.loop-number-preserved
loop-number-preserved c =
    let w = c.write_number-place.ensures in
    numerals_next _ _ _ _ _ _ c.loop-number.invariant _ _ c.loop-number-test.true w.0 w.1

pub returns : goal.returns
returns c = numerals_end _ _ _ _ _ _ c.loop-number.invariant c.loop-number-test.false
