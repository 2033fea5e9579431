-- `wiring::told_by` meets its contract: there are few helpers. Assumes nothing.
use mathlib.Core.Path.{ap₂}
use Prim.Native.Nat.{◌*◌}
use native.Mathlib.Omega.{arith}
use Rattle.wiring.specs.Wires.{inward}
use Rattle.wiring.proofs.OnWire.{wire_room}
use Rattle.wiring.proofs.told_by.Goals as goal

pub returns : goal.returns
unfolding inward
returns c = let p = c.requires in ap₂ ◌*◌ p.1 p.0.share_is

pub overflow_mul-result : goal.overflow_mul-result
overflow_mul-result c = let R = c.requires.0 in omega (arith, (wire_room R _ 0 (returns c) R.some).small)
