-- `solving::run_table` meets its contract: the entries that are not skipped are no helper's. Assumes nothing.
use mathlib.Core.Path.{◌≡◌}
use Prim.Native.Nat.{ℕ, ◌+◌, ◌<◌}
use lib.ListN.{length, get_or}
use Rattle.lists.specs.Lists.{element}
use Rattle.rows.specs.Rows.{most_places}
use Rattle.solving.proofs.run_table.Given as goal

abbrev pub invariant-loop-t : goal.invariant-loop-t
invariant-loop-t l = (length l.each ≡ most_places) × ((k : ℕ) → k < l.t → element l.each k ≡ get_or l.fn.class (l.first + k) 0)
