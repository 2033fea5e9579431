-- `patterns::numbers_of` meets its contract. Assumes nothing.
use Rattle.std.proofs.Common.{ℕ, ◌<◌}
use Rattle.lists.specs.Lists.{element}
use Rattle.patterns.specs.Patterns.{Stands}
use Rattle.patterns.proofs.numbers_of.Given as goal

abbrev pub invariant-loop-p : goal.invariant-loop-p
invariant-loop-p l = (k : ℕ) → k < l.p → Stands l.n l.marked k (element l.number-items k)
