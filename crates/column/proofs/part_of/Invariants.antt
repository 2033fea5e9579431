-- `column::part_of` meets its contract. Assumes nothing.
use Rattle.std.proofs.Common.{◌≡◌, ◌%◌, ◌<◌, length}
use Rattle.lists.specs.Sums.{sum}
use Rattle.column.specs.Solving.{term}
use Rattle.column.proofs.part_of.Given as goal

abbrev pub invariant-loop-factor : goal.invariant-loop-factor
invariant-loop-factor l = (l.total < l.q) × (l.total ≡ sum (length l.yielded) (term l.fn.row l.values l.start) % l.q)
