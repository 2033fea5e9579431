-- `tables::point_row` meets its contract. Assumes nothing.
use Rattle.std.proofs.Common.{◌≡◌, ℕ, ◌<◌, cond, get_or}
use Rattle.lists.specs.Lists.{element}
use Rattle.tables.specs.Tables.{point_of, opposite_of}
use Rattle.tables.proofs.point_row.Given as goal

abbrev pub invariant-loop-t : goal.invariant-loop-t
invariant-loop-t l = (k : ℕ) → k < l.t → get_or l.x-items k 0 ≡ cond l.opposite (opposite_of (element l.each) l.node k) (point_of (element l.each) l.node k)
