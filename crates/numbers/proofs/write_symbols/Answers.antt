-- `numbers::write_symbols` meets its contract: the numerals of the symbols that were not reached are still to be written.
use native.Mathlib.Omega.{arith}
use Rattle.numbers.proofs.Numerals.{numerals_room, numerals_next, numerals_end}
use Rattle.numbers.proofs.write_symbols.Goals as goal

pub write_number-place-requires : goal.write_number-place-requires
write_number-place-requires c =
    let l = c.loop-symbol in
    rw c.from.ensures (omega (arith, c.type_inv.symbols l.symbol-index), numerals_room _ _ _ _ _ _ l.invariant c.requires c.loop-symbol-test.true)

pub loop-symbol-preserved : goal.loop-symbol-preserved
loop-symbol-preserved c =
    let w = rw c.from.ensures at c.write_number-place.ensures in
    numerals_next _ _ _ _ _ _ c.loop-symbol.invariant _ _ c.loop-symbol-test.true w.0 w.1

pub returns : goal.returns
returns c = numerals_end _ _ _ _ _ _ c.loop-symbol.invariant c.loop-symbol-test.false
