-- `completion::others` meets its contract. Assumes nothing.
use mathlib.Core.Path.{◌≡◌}
use Prim.Native.Nat.{◌+◌}
use lib.ListN.{length}
use Rattle.lists.specs.Lists.{outside}
use Rattle.lists.proofs.Buffers.{Written}
use Rattle.lists.proofs.Pointers.{Along}
use Rattle.column.specs.Solving.{most_entries}
use Rattle.completion.proofs.others.Given as goal

abbrev pub invariant-loop-i : goal.invariant-loop-i
invariant-loop-i l = (l.at + l.j ≡ l.i) × (length l.out ≡ most_entries) × Along l.list l.i l.j × Written (λ x. x) (outside l.list) l.i l.initial.out l.out l.at
