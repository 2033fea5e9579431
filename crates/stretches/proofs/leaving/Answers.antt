-- `stretches::leaving` meets its contract. Assumes nothing.
use Prim.Native.Nat.{◌+◌, ◌-◌, ◌%◌}
use native.Mathlib.Nat.{mod-lt}
use native.Mathlib.Omega.{arith}
use Rattle.stretches.proofs.Runs.{leaving_is}
use Rattle.stretches.proofs.leaving.Goals as goal

pub overflow_sub-result : goal.overflow_sub-result
overflow_sub-result c = omega (arith, mod-lt c.args.first {m = c.args.modulus} (omega (arith, c.requires.0)))

pub overflow_add-result-2 : goal.overflow_add-result-2
overflow_add-result-2 c = omega (arith, c.requires.0, c.requires.1, c.requires.2, mod-lt (c.args.rest + c.args.modulus - c.args.first % c.args.modulus) {m = c.args.modulus} (omega (arith, c.requires.0)))

pub returns : goal.returns
returns c = leaving_is _ _ _ c.requires.0
