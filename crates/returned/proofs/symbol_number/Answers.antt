-- `returned::symbol_number` meets its contract: the number and all on the way to it are small. Assumes nothing.
use mathlib.Core.Path.{refl}
use native.Mathlib.Omega.{arith}
use Rattle.checking.specs.Promises.{symbol_number}
use Rattle.returned.specs.Promises.{behind_equations}
use Rattle.returned.proofs.Equations.{Behind, behind}
use Rattle.returned.proofs.symbol_number.Goals as goal
use Rattle.returned.proofs.symbol_number.Goals.{Start}

-- the symbol is one of the shape's data nodes
known : (c : Start) → Behind c.args.s c.args.node c.args.place
known c = let p = c.requires in behind _ _ _ p.0 p.1 p.2

pub size-each-requires : goal.size-each-requires
size-each-requires c = c.requires.0

pub overflow_sub-result : goal.overflow_sub-result
overflow_sub-result c = omega (arith, (known (goal.at.overflow_sub-result c).Start).shaped.k_high)

pub overflow_mul-result : goal.overflow_mul-result
unfolding behind_equations
overflow_mul-result c = rw c.size-each.ensures (omega (arith, (known (goal.at.overflow_mul-result c).Start).number))

pub overflow_mul-result-2 : goal.overflow_mul-result-2
unfolding symbol_number
overflow_mul-result-2 c = rw c.size-each.ensures (omega (arith, (known (goal.at.overflow_mul-result-2 c).Start).symbol))

pub overflow_add-result : goal.overflow_add-result
unfolding symbol_number
overflow_add-result c = rw c.size-each.ensures (omega (arith, (known (goal.at.overflow_add-result c).Start).symbol))

pub overflow_add-result-2 : goal.overflow_add-result-2
unfolding behind_equations symbol_number
overflow_add-result-2 c = rw c.size-each.ensures (omega (arith, (known (goal.at.overflow_add-result-2 c).Start).number))

pub returns : goal.returns
unfolding behind_equations symbol_number
returns c = rw c.size-each.ensures (refl, omega (arith, (known (goal.at.returns c).Start).number))
