-- The difference modulo q: the modulus is added before the subtraction.
use native.Mathlib.Omega.{arith}
use native.Mathlib.Nat.{mod-lt}
use Rattle.field.specs.Residues.{minus}
use Rattle.field.proofs.subtract.Goals as goal

pub overflow_sub-q : goal.overflow_sub-q
overflow_sub-q c = omega (arith, mod-lt c.args.b {m = c.args.q} c.requires)

pub returns : goal.returns
unfolding minus
returns c = c.reduced.ensures
