-- `unpacking::read_header` meets its contract: where the first number is 1, the others stand behind it, else five stand at the front.
use mathlib.Core.Path.{sym, ap, ◌∙◌}
use Rattle.numbers.specs.Numbers.{read_to}
use Rattle.card.proofs.Heading.{front_bad, front_nothing, front_plain}
use Rattle.unpacking.proofs.read_header.Goals as goal

pub returns-in_err-first : goal.returns-in_err-first
returns-in_err-first c = c.from_residual.ensures ∙ front_bad _ (front_nothing _ (sym c.read_number.ensures ∙ c.in_err-first.was))

pub read_heard-requires : goal.read_heard-requires
read_heard-requires c = sym c.read_number.ensures ∙ c.in_ok-first.was ∙ ap (λ v. read_to v c.in_ok-first.first.next) c.if-first-eq-HEARING_LEAD.true

pub returns : goal.returns
returns c = c.read_plain.ensures ∙ front_plain _ _ _ (sym c.read_number.ensures ∙ c.in_ok-first.was) c.if-first-eq-HEARING_LEAD.false
