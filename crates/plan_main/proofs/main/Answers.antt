-- `plan_main::main` meets its contract: the text lies within its buffer. Assumes nothing.
use Prim.Native.Nat.{◌≤◌}
use native.Mathlib.Omega.{arith}
use lib.ListN.{length}
use Rattle.plan.proofs.Exits.{front_length}
use Rattle.plan.proofs.Promised.{text_fits}
use Rattle.plan_main.proofs.main.Goals as goal

-- the text is no longer than the buffer
pub slice_bounds-text-end : goal.slice_bounds-text-end
slice_bounds-text-end c = omega (arith, text_fits _ _ _ _ _ c.plan.ensures c.in-Ok.is, c.plan.auto.text)

pub slice_bounds-write_all-end : goal.slice_bounds-write_all-end
slice_bounds-write_all-end c =
    let within : c.in-Ok.long ≤ length c.plan.new.text = omega (arith, text_fits _ _ _ _ _ c.plan.ensures c.in-Ok.is, c.plan.auto.text) in
    front_length _ _ within
