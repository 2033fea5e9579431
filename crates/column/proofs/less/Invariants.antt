-- One point eliminated from a side of the equations, an equation at a time.
use Rattle.std.proofs.Common.{◌≡◌, ℕ, ◌<◌}
use Rattle.lists.specs.Lists.{element}
use Rattle.column.specs.Solving.{less}
use Rattle.column.proofs.less.Given as goal

abbrev pub invariant-loop-t : goal.invariant-loop-t
invariant-loop-t l = (u : ℕ) → u < l.t → element l.equation-items u ≡ less l.q l.x (element l.side) u
