-- `shape::batch` meets its contract: what is left has the odd part of h + 1, and the loop ends where it is odd itself. Assumes nothing.
use mathlib.Core.Path.{refl, sym, ◌∙◌}
use native.Mathlib.Omega.{arith}
use Rattle.shape.proofs.Batches.{odd_half, odd_done}
use Rattle.shape.proofs.batch.Goals as goal

pub loop-s-init : goal.loop-s-init
loop-s-init c = (omega arith, omega arith, refl)

pub loop-s-preserved : goal.loop-s-preserved
loop-s-preserved c =
    let i = c.loop-s.invariant in
    (omega arith, omega arith, i.2 ∙ odd_half _ _ i.0 i.1 c.loop-s-test.true)

pub returns : goal.returns
returns c = sym (c.loop-s.invariant.2 ∙ odd_done _ _ c.loop-s-test.false)
