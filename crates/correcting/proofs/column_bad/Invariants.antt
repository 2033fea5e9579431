-- `correcting::column_bad` meets its contract: the symbols at the place, looked at one by one. Assumes nothing.
use mathlib.Core.Path.{◌≡◌}
use mathlib.Core.Bool.{not, ◌&&◌}
use mathlib.Core.List.{List}
use Prim.Native.Nat.{ℕ, ◌+◌, ◌-◌, ◌*◌, ◌≤◌}
use lib.ListN.{get_or, drop}
use Rattle.lists.specs.Lists.{tabulate, all, below}
use Rattle.correcting.proofs.column_bad.Given as goal

-- what n nodes hold at a place
abbrev pub held : ℕ → ℕ → ℕ → List ℕ → List ℕ
held n each place nodes = tabulate n (λ i. get_or nodes (i * each + place) 0)

abbrev pub invariant-loop-i : goal.invariant-loop-i
invariant-loop-i l = (l.i ≤ l.n) × (all (below 257) (held l.n l.each l.place l.nodes) ≡ (not l.bad && all (below 257) (drop l.i (held l.n l.each l.place l.nodes))))

abbrev pub decreases-loop-i : goal.decreases-loop-i
decreases-loop-i l = l.n - l.i
