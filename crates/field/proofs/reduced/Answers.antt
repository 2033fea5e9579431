-- The residue of a number: below the modulus, so it fits.
use native.Mathlib.Omega.{arith}
use mathlib.Core.Path.{refl}
use native.Mathlib.Nat.{mod-lt}
use Rattle.field.proofs.reduced.Goals as goal

pub overflow_cast-result-2 : goal.overflow_cast-result-2
overflow_cast-result-2 c = omega (arith, mod-lt c.args.x {m = c.args.q} c.requires)

pub returns : goal.returns
returns c = (mod-lt _ c.requires, refl)
