-- `unpacking::scan_symbols` meets its contract: what turns back all symbols turns back those that were not reached.
use mathlib.Core.Path.{sym, ap, ◌∙◌}
use native.Mathlib.Omega.{arith}
use Rattle.card.specs.Cards.{symbols_number}
use Rattle.card.proofs.Reading.{number_and, scan_bad, scan_left, scan_end, scan_high, scan_next}
use Rattle.unpacking.proofs.scan_symbols.Goals as goal

pub returns-in_default : goal.returns-in_default
unfolding symbols_number
returns-in_default c =
    let read = sym c.read_number.ensures ∙ c.in_default.is in
    sym (c.loop.invariant ∙ ap symbols_number (scan_bad _ _ _ c.args.count c.loop.counter (omega arith) read))

pub returns-then-modulus-value : goal.returns-then-modulus-value
unfolding symbols_number
returns-then-modulus-value c =
    let read = sym c.read_number.ensures ∙ c.in-Some.is in
    sym (c.loop.invariant ∙ ap symbols_number (scan_high _ _ _ c.args.count c.loop.counter _ _ (omega arith) read (omega arith)))

pub loop-preserved : goal.loop-preserved
loop-preserved c =
    let read = sym c.read_number.ensures ∙ c.in-Some.is in
    c.loop.invariant ∙ ap symbols_number (scan_next _ _ _ c.args.count c.loop.counter _ _ (omega arith) read (omega arith)) ∙ number_and _ _

pub returns-then-at-card : goal.returns-then-at-card
unfolding symbols_number
returns-then-at-card c =
    sym (c.loop.invariant ∙ ap symbols_number (scan_left _ c.args.card.now c.loop.at c.args.count c.loop.counter (omega arith) (omega arith)))

pub returns : goal.returns
unfolding symbols_number
returns c =
    sym (c.loop.invariant ∙ ap symbols_number (scan_end _ c.args.card.now c.loop.at c.args.count c.loop.counter (omega arith) (omega arith)))
