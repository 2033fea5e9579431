-- `completion::powers` meets its contract. Assumes nothing.
use Rattle.std.proofs.Common.{◌≡◌, ℕ, ◌<◌}
use Rattle.lists.specs.Lists.{element}
use Rattle.column.specs.Solving.{power_of}
use Rattle.completion.proofs.powers.Given as goal

abbrev pub invariant-loop-power : goal.invariant-loop-power
invariant-loop-power l = (l.p ≡ power_of l.q l.x l.power-index) × ((u : ℕ) → u < l.power-index → element l.power-items u ≡ power_of l.q l.x u)
