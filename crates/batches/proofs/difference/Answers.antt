-- `batches::difference` meets its contract: the sum and the modulus, less a symbol, is below twice the modulus. Assumes nothing.
use native.Mathlib.Omega.{arith}
use Rattle.field.specs.Residues.{minus}
use Rattle.batches.proofs.difference.Goals as goal

pub returns-then-more-modulus : goal.returns-then-more-modulus
unfolding minus
returns-then-more-modulus c = omega arith

pub returns-else-more-modulus : goal.returns-else-more-modulus
unfolding minus
returns-else-more-modulus c = omega arith
