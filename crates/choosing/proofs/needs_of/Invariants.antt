-- `choosing::needs_of` meets its contract: the losses are judged in turn, and `least` is what those before i need. Assumes nothing.
use mathlib.Core.Path.{◌≡◌}
use Prim.Native.Nat.{◌-◌, ◌≤◌}
use lib.ListN.{length, drop}
use Rattle.lists.specs.Lists.{all}
use Rattle.shape.specs.Shape.{within}
use Rattle.choosing.proofs.Needed.{NeededFrom}
use Rattle.choosing.proofs.needs_of.Given as goal

abbrev pub invariant-loop-h : goal.invariant-loop-h
invariant-loop-h l = (l.h-index ≤ length l.losses) × (all (within 1 l.most) l.losses ≡ all (within 1 l.most) (drop l.h-index l.losses)) × NeededFrom l.losses l.h-index l.least
