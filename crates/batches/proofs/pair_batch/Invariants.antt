-- `batches::pair_batch` meets its contract. Assumes nothing.
use mathlib.Core.Path.{◌≡◌}
use Prim.Native.Nat.{◌-◌, ◌≤◌}
use lib.ListN.{length}
use Rattle.batches.specs.Batches.{PairedIn}
use Rattle.batches.proofs.pair_batch.Given as goal

abbrev pub invariant-loop-x : goal.invariant-loop-x
invariant-loop-x l = (l.x ≤ length l.members) × (l.count ≡ length l.members) × (length l.symbols ≡ length l.initial.symbols) × PairedIn l.members l.turn l.pairs l.x l.symbols

abbrev pub decreases-loop-x : goal.decreases-loop-x
decreases-loop-x l = length l.members - l.x
