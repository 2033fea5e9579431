-- `ordering::all_sent` meets its contract: all helpers have sent where all that are left have. Assumes nothing.
use mathlib.Core.Path.{◌≡◌}
use Prim.Native.Nat.{◌≤◌}
use lib.ListN.{length, drop}
use Rattle.lists.specs.Lists.{all}
use Rattle.ordering.specs.Following.{by_table, sent_to}
use Rattle.ordering.proofs.all_sent.Given as goal

abbrev pub invariant-loop-helper : goal.invariant-loop-helper
invariant-loop-helper l = (l.helper-index ≤ length l.helpers) × (all (sent_to (by_table l.sent) l.node) l.helpers ≡ all (sent_to (by_table l.sent) l.node) (drop l.helper-index l.helpers))
