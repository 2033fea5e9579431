-- `picking::pick_row` meets its contract. Assumes nothing.
use Rattle.std.proofs.Common.{◌≡◌, ℕ, ◌<◌, get_or}
use Rattle.picking.specs.Picking.{picked}
use Rattle.picking.proofs.pick_row.Given as goal

abbrev pub invariant-loop-t : goal.invariant-loop-t
invariant-loop-t l = (k : ℕ) → k < l.t → get_or l.element-items k 0 ≡ picked l.looked l.row l.source l.at k
