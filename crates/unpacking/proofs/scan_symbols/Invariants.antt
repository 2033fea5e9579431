-- `unpacking::scan_symbols` meets its contract: what turns back all symbols turns back those that were not reached.
use mathlib.Core.Path.{◌≡◌}
use Prim.Native.Nat.{◌-◌}
use lib.ListN.{drop}
use Rattle.card.specs.Cards.{symbols_number, read_symbols}
use Rattle.unpacking.proofs.scan_symbols.Given as goal

abbrev pub invariant-loop : goal.invariant-loop
invariant-loop l = symbols_number (read_symbols l.modulus l.count (drop l.start l.card)) ≡ symbols_number (read_symbols l.modulus (l.count - l.counter) (drop l.at l.card))
