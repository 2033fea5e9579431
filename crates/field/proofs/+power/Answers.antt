-- The power modulo q, by recursion on the exponent halved.
use native.Mathlib.Omega.{arith}
use Rattle.field.proofs.Modular.{returned_even, returned_odd}
use Rattle.field.proofs.+power.Goals as goal

pub returns-then-e-eq0-2 : goal.returns-then-e-eq0-2
returns-then-e-eq0-2 t c =
    (c.multiply-s.ensures.0, returned_even _ _ _ _ _ c.power-h.ensures.1 c.multiply-s.ensures.1 (omega arith))

pub returns-else-e-eq0-2 : goal.returns-else-e-eq0-2
returns-else-e-eq0-2 t c =
    (c.multiply.ensures.0, returned_odd _ _ _ _ _ c.power-h.ensures.1 c.multiply-s.ensures.1 _ (omega arith) c.multiply.ensures.1)
