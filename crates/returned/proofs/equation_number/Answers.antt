-- `returned::equation_number` meets its contract: the number and all on the way to it are small. Assumes nothing.
use mathlib.Core.Path.{refl}
use native.Mathlib.Omega.{arith}
use Rattle.checking.specs.Promises.{equation_number}
use Rattle.returned.proofs.Equations.{Within, within}
use Rattle.returned.proofs.equation_number.Goals as goal
use Rattle.returned.proofs.equation_number.Goals.{Start}

-- the equation is one of the shape's
known : (c : Start) → Within c.args.s c.args.layer c.args.a c.args.t
known c = let p = c.requires in within _ _ _ _ p.0 p.1 p.2 p.3

pub two_to-requires : goal.two_to-requires
two_to-requires c = (known c).shaped.n_high

pub overflow_mul-result : goal.overflow_mul-result
overflow_mul-result c = rw c.two_to.ensures (omega (arith, (known (goal.at.overflow_mul-result c).Start).place))

pub overflow_add-result : goal.overflow_add-result
overflow_add-result c = rw c.two_to.ensures (omega (arith, (known (goal.at.overflow_add-result c).Start).place))

pub overflow_sub-result : goal.overflow_sub-result
overflow_sub-result c = omega (arith, (known (goal.at.overflow_sub-result c).Start).shaped.k_high)

pub overflow_mul-result-2 : goal.overflow_mul-result-2
unfolding equation_number
overflow_mul-result-2 c = rw c.two_to.ensures (omega (arith, (known (goal.at.overflow_mul-result-2 c).Start).number))

pub overflow_add-result-2 : goal.overflow_add-result-2
unfolding equation_number
overflow_add-result-2 c = rw c.two_to.ensures (omega (arith, (known (goal.at.overflow_add-result-2 c).Start).number))

pub returns : goal.returns
unfolding equation_number
returns c = rw c.two_to.ensures (refl, omega (arith, (known (goal.at.returns c).Start).number))
