-- `batches::store_row` meets its contract. Assumes nothing.
use mathlib.Core.Path.{◌≡◌, refl}
use Prim.Native.Nat.{suc, ◌+◌}
use native.Mathlib.Omega.{arith}
use Rattle.batches.proofs.Batches.{puts_none, puts_next}
use Rattle.batches.proofs.store_row.Goals as goal

pub loop-i-init : goal.loop-i-init
loop-i-init c = puts_none _ _ _

pub loop-i-preserved : goal.loop-i-preserved
loop-i-preserved c = let l = c.loop-i in let e : l.i + 1 ≡ suc l.i = omega arith in rw e (puts_next _ _ l.i _ _ _ _ l.invariant refl refl)
