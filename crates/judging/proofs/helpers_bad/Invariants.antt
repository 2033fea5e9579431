-- `judging::helpers_bad` meets its contract: all symbols of the helpers passed are good. Assumes nothing.
use mathlib.Core.Path.{◌≡◌}
use mathlib.Core.Bool.{Bool}
use mathlib.Core.List.{List}
use Prim.Native.Nat.{ℕ, ◌-◌, ◌≤◌}
use lib.ListN.{length, drop}
use Rattle.lists.specs.Lists.{all, below, piece}
use Rattle.code.specs.Code.{narrow}
use Rattle.judging.proofs.helpers_bad.Given as goal

-- the symbols of node i are good, with this many symbols a node
abbrev pub good : ℕ → List ℕ → ℕ → Bool
good full nodes i = all (below narrow.modulus) (piece full i nodes)

abbrev pub invariant-loop-helper : goal.invariant-loop-helper
invariant-loop-helper l = (l.helper-index ≤ length l.helpers) × (all (good l.full l.nodes) l.helpers ≡ all (good l.full l.nodes) (drop l.helper-index l.helpers))
