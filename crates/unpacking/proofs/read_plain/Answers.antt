-- `unpacking::read_plain` meets its contract: a number more at each place, or the first that is malformed.
use mathlib.Core.Path.{sym, ◌∙◌}
use mathlib.Core.List.{List}
use Prim.Native.Nat.{ℕ}
use lib.ListN.{drop}
use Rattle.numbers.specs.Numbers.{read_numbers}
use Rattle.card.specs.Cards.{plain_count, header_with}
use Rattle.card.proofs.Reading.{Begun, begun, begun_next}
use Rattle.card.proofs.Heading.{plain_bad, plain_end}
use Rattle.unpacking.proofs.read_plain.Goals as goal
use Rattle.unpacking.proofs.read_plain.Goals.{In_ok-n, In_ok-k, In_ok-layers, In_ok-node, Start}

-- of the five numbers some are left
abbrev Plain : List ℕ → ℕ → ℕ → ℕ → Type 0
Plain bytes start left at = Begun (read_numbers plain_count (drop start bytes)) bytes left at

abbrev five : (c : Start) → Plain c.args.card.now c.args.start 5 c.args.start
five c = begun _ plain_count _ c.requires

abbrev one : (c : In_ok-n) →
    let a = c.args in
    Plain a.card.now a.start 4 c.in_ok-n.field-0.next
one c = begun_next (five (goal.at.In_ok-n c).Start) (sym c.read_number.ensures ∙ c.in_ok-n.was)

abbrev two : (c : In_ok-k) →
    let a = c.args in
    Plain a.card.now a.start 3 c.in_ok-k.field-0.next
two c = begun_next (one (goal.at.In_ok-k c).In_ok-n) (sym c.read_number-2.ensures ∙ c.in_ok-k.was)

abbrev three : (c : In_ok-layers) →
    let a = c.args in
    Plain a.card.now a.start 2 c.in_ok-layers.field-0.next
three c = begun_next (two (goal.at.In_ok-layers c).In_ok-k) (sym c.read_number-3.ensures ∙ c.in_ok-layers.was)

abbrev four : (c : In_ok-node) →
    let a = c.args in
    Plain a.card.now a.start 1 c.in_ok-node.field-0.next
four c = begun_next (three (goal.at.In_ok-node c).In_ok-layers) (sym c.read_number-4.ensures ∙ c.in_ok-node.was)

pub returns-in_err-n : goal.returns-in_err-n
returns-in_err-n c = c.from_residual.ensures ∙ plain_bad (five (goal.at.returns-in_err-n c).Start) (sym c.read_number.ensures ∙ c.in_err-n.was)

pub returns-in_err-k : goal.returns-in_err-k
returns-in_err-k c = c.from_residual-in_err-k.ensures ∙ plain_bad (one (goal.at.returns-in_err-k c).In_ok-n) (sym c.read_number-2.ensures ∙ c.in_err-k.was)

pub returns-in_err-layers : goal.returns-in_err-layers
returns-in_err-layers c = c.from_residual-in_err-layers.ensures ∙ plain_bad (two (goal.at.returns-in_err-layers c).In_ok-k) (sym c.read_number-3.ensures ∙ c.in_err-layers.was)

pub returns-in_err-node : goal.returns-in_err-node
returns-in_err-node c = c.from_residual-in_err-node.ensures ∙ plain_bad (three (goal.at.returns-in_err-node c).In_ok-layers) (sym c.read_number-4.ensures ∙ c.in_err-node.was)

pub returns-in_err-len : goal.returns-in_err-len
returns-in_err-len c = c.from_residual-in_err-len.ensures ∙ plain_bad (four (goal.at.returns-in_err-len c).In_ok-node) (sym c.read_number-5.ensures ∙ c.in_err-len.was)

pub returns : goal.returns
unfolding header_with
returns c = plain_end (begun_next (four (goal.at.returns c).In_ok-node) (sym c.read_number-5.ensures ∙ c.in_ok-len.was))
