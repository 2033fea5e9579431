-- `unpacking::read_symbols` meets its contract: what was read is in the buffer up to a symbol, and the rest can be read at the place.
use mathlib.Core.Path.{◌≡◌}
use mathlib.Core.List.{◌++◌}
use Prim.Native.Nat.{◌-◌}
use lib.ListN.{length, take, drop}
use Rattle.shape.specs.Shape.{symbol_values}
use Rattle.card.specs.Cards.{symbols_read, read_symbols}
use Rattle.card.proofs.Reading.{Good}
use Rattle.unpacking.proofs.read_symbols.Given as goal

abbrev pub invariant-loop-symbol : goal.invariant-loop-symbol
invariant-loop-symbol l =
    Good (read_symbols symbol_values (length l.initial.symbols - l.symbol-index) (drop l.at l.card))
    × (symbols_read (read_symbols symbol_values (length l.initial.symbols) (drop l.start l.card)) ≡ take l.symbol-index l.symbols ++ symbols_read (read_symbols symbol_values (length l.initial.symbols - l.symbol-index) (drop l.at l.card)))
