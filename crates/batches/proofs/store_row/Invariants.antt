-- `batches::store_row` meets its contract. Assumes nothing.
use mathlib.Core.Path.{◌≡◌}
use Prim.Native.Nat.{◌+◌}
use lib.Bits.{bit_xor}
use Rattle.lists.specs.Lists.{element}
use Rattle.batches.specs.Batches.{puts}
use Rattle.batches.proofs.store_row.Given as goal

abbrev pub invariant-loop-i : goal.invariant-loop-i
invariant-loop-i l = l.symbols ≡ puts (λ j. bit_xor (l.x + j) l.turn) (element l.row) l.i l.initial.symbols
