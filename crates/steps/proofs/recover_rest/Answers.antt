-- `steps::recover_rest` meets its contract: the table of the own class is lent on. Assumes nothing.
use mathlib.Core.Path.{◌≡◌}
use native.Mathlib.Omega.{arith}
use lib.ListN.{length}
use Rattle.code.specs.Code.{narrow}
use Rattle.classes.proofs.Layouts.{ready_dead}
use Rattle.steps.proofs.Recovery.{alone}
use Rattle.steps.proofs.recover_rest.Goals as goal

pub returns-then-dead-eq1 : goal.returns-then-dead-eq1
returns-then-dead-eq1 c =
    let e : length c.args.dead.now ≡ 1 = omega arith in
    record { whole = λ pairs G. alone narrow (ready_dead c.requires.ready.0) _ c.requires.ready.1 pairs _ e _ G }
