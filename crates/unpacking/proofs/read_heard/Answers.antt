-- `unpacking::read_heard` meets its contract: the five numbers behind the leading 1, and then the hearing number.
use mathlib.Core.Path.{sym, ◌∙◌}
use Rattle.numbers.proofs.Places.{number_inside}
use Rattle.card.proofs.Heading.{front_bad, led_bad, Led, led_read, last_bad, last_read}
use Rattle.unpacking.proofs.read_heard.Goals as goal
use Rattle.unpacking.proofs.read_heard.Goals.{In_ok-plain}

pub read_plain-requires : goal.read_plain-requires
read_plain-requires c = number_inside _ _ _ _ _ c.requires

pub returns-in_err-plain : goal.returns-in_err-plain
returns-in_err-plain c = c.from_residual.ensures ∙ front_bad _ (led_bad _ _ c.requires (sym c.read_plain.ensures ∙ c.in_err-plain.was))

-- the five were read
plain : (c : In_ok-plain) → Led c.args.card.now c.args.start c.requires c.in_ok-plain.plain.header c.in_ok-plain.plain.next
plain c = led_read _ _ c.requires _ _ _ (sym c.read_plain.ensures ∙ c.in_ok-plain.was)

pub returns-in_err-hearing : goal.returns-in_err-hearing
returns-in_err-hearing c =
    c.from_residual-in_err-hearing.ensures ∙ front_bad _ (last_bad _ _ _ _ _ (plain (goal.at.returns-in_err-hearing c).In_ok-plain) (sym c.read_number.ensures ∙ c.in_err-hearing.was))

pub returns : goal.returns
returns c = last_read _ _ _ _ _ (plain (goal.at.returns c).In_ok-plain) _ _ (sym c.read_number.ensures ∙ c.in_ok-hearing.was)
