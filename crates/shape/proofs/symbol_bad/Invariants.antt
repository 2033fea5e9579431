-- `shape::symbol_bad` meets its contract: all symbols are below q where none was not, and all that are left are. Assumes nothing.
use mathlib.Core.Path.{◌≡◌}
use mathlib.Core.Bool.{not, ◌&&◌}
use Prim.Native.Nat.{◌≤◌}
use lib.ListN.{length, drop}
use Rattle.lists.specs.Lists.{all, below}
use Rattle.shape.proofs.symbol_bad.Given as goal

abbrev pub invariant-loop-symbol : goal.invariant-loop-symbol
invariant-loop-symbol l = (l.symbol-index ≤ length l.symbols) × (all (below l.q) l.symbols ≡ (not l.bad && all (below l.q) (drop l.symbol-index l.symbols)))
