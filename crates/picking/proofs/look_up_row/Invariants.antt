-- `picking::look_up_row` meets its contract. Assumes nothing.
use Rattle.std.proofs.Common.{◌≡◌, ℕ, ◌<◌, get_or}
use Rattle.picking.specs.Picking.{looked_at}
use Rattle.picking.proofs.look_up_row.Given as goal

abbrev pub invariant-loop-t : goal.invariant-loop-t
invariant-loop-t l = (k : ℕ) → k < l.t → get_or l.looked-items k 0 ≡ looked_at l.a l.node l.picks l.last k
