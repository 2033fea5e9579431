-- The product modulo q: that of two numbers of 32 bits fits 64.
use native.Mathlib.Omega.{arith}
use native.Mathlib.Nat.{mul-le-mul}
use Rattle.field.proofs.multiply.Goals as goal

pub overflow_mul-a : goal.overflow_mul-a
overflow_mul-a c = omega (arith, mul-le-mul {n₁ = c.args.a} {m₁ = c.args.b} {n₂ = 4294967295} {m₂ = 4294967295} (omega arith) (omega arith))
