-- `inverting::invert` meets its contract: the last element first. Assumes nothing.
use mathlib.Core.Path.{◌≡◌}
use Prim.Native.Nat.{ℕ, ◌*◌, ◌%◌, ◌<◌}
use lib.ListN.{length}
use Rattle.lists.specs.Lists.{element}
use Rattle.inverting.specs.Inverses.{product, Pivots, Inverted}
use Rattle.inverting.proofs.invert.Given as goal

abbrev pub invariant-loop-i : goal.invariant-loop-i
invariant-loop-i l =
    Inverted l.q l.row l.i l.out × ((k : ℕ) → k < l.i → element l.out k ≡ product l.q (element l.row) k)
    × (Pivots l.q (length l.row) (element l.row) → (product l.q (element l.row) l.i * l.rest) % l.q ≡ 1)
