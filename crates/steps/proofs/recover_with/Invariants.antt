-- `steps::recover_with` meets its contract: the places of the ranks passed are settled. Assumes nothing.
use mathlib.Core.Path.{◌≡◌}
use mathlib.Core.List.{List}
use Prim.Native.Nat.{ℕ, ◌-◌, ◌≤◌}
use lib.ListN.{length}
use Rattle.shape.specs.Shape.{size}
use Rattle.code.specs.Code.{narrow}
use Rattle.classes.specs.Layout.{Fronted}
use Rattle.steps.proofs.Recovery.{Known}
use Rattle.steps.proofs.recover_with.Given as goal

abbrev pub invariant-loop-u : goal.invariant-loop-u
invariant-loop-u l =
    (l.u ≤ length l.dead) × (l.u-end ≡ length l.dead) × (length l.symbols ≡ size l.g.shape)
    × ((pairs : List ℕ) → Known narrow l.g.shape l.dead l.v pairs l.received 0 l.initial.symbols → Known narrow l.g.shape l.dead l.v pairs l.received l.u l.symbols)
    × (length l.table ≡ length l.initial.table) × Fronted l.dead l.listed l.g.shape.n l.table

abbrev pub decreases-loop-u : goal.decreases-loop-u
decreases-loop-u l = l.u-end - l.u
