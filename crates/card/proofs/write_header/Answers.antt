-- `card::write_header` meets its contract: five numbers where there is no hearing number, else seven.
use native.Mathlib.Omega.{arith}
use Rattle.card.specs.Cards.{header_fields, plain_numbers}
use Rattle.card.proofs.Fronts.{numbers_plain, numbers_long}
use Rattle.card.proofs.Packing.{form_fits, form_written}
use Rattle.card.proofs.write_header.Goals as goal

pub write_numbers-requires : goal.write_numbers-requires
unfolding plain_numbers
write_numbers-requires c =
    form_fits _ _ (numbers_plain c.args.header (omega arith)) c.args.card.now c.requires

pub returns-then-hearing-eq0 : goal.returns-then-hearing-eq0
unfolding plain_numbers
returns-then-hearing-eq0 c =
    form_written _ _ (numbers_plain c.args.header (omega arith)) _ _ _ c.write_numbers.ensures

pub write_numbers-requires-2 : goal.write_numbers-requires-2
unfolding header_fields plain_numbers
write_numbers-requires-2 c =
    form_fits _ _ (numbers_long c.args.header (omega arith)) c.args.card.now c.requires

pub returns : goal.returns
unfolding header_fields plain_numbers
returns c =
    form_written _ _ (numbers_long c.args.header (omega arith)) _ _ _ c.write_numbers-2.ensures
