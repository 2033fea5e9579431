-- `classes::class_of` meets its contract: the class by the first v of the nodes i_0, i_s, i_2s, .. Assumes nothing.
use mathlib.Core.Path.{◌≡◌}
use Prim.Native.Nat.{◌-◌, ◌≤◌}
use Rattle.classes.specs.Classes.{class_by}
use Rattle.classes.proofs.class_of.Given as goal

abbrev pub invariant-loop-v : goal.invariant-loop-v
invariant-loop-v l = (l.v ≤ l.top) × (l.class ≡ class_by l.dead l.v l.a)

abbrev pub decreases-loop-v : goal.decreases-loop-v
decreases-loop-v l = l.top - l.v
