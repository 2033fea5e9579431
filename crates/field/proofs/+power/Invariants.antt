-- The power modulo q, by recursion on the exponent halved.
use Rattle.field.proofs.+power.Given as goal

abbrev pub decreases-power : goal.decreases-power
decreases-power l = l.e
