-- `solving::slot` meets its contract: among all exchanges, or among its own. Assumes nothing.
use mathlib.Core.Path.{◌≡◌, sym}
use Prim.Native.Nat.{◌+◌, ◌-◌, ◌*◌, ◌≤◌}
use native.Mathlib.Nat.{mul-le-mul}
use native.Mathlib.Omega.{arith}
use Rattle.shape.specs.Shape.{most_nodes}
use Rattle.solving.specs.Solving.{slot_of}
use Rattle.classes.proofs.Placing.{place_below}
use Rattle.solving.proofs.Slots.{slot_lt}
use Rattle.solving.proofs.slot.Goals as goal
use Rattle.solving.proofs.slot.Goals.{Start}

few : (c : Start) → c.args.v * (c.args.h - 1) ≤ most_nodes * most_nodes
few c = mul-le-mul {n₂ = most_nodes} {m₂ = most_nodes} (omega arith) (omega arith)

pub overflow_add-result : goal.overflow_add-result
overflow_add-result c =
    let p = c.requires in
    omega (arith, few (goal.at.overflow_add-result c).Start, c.among.ensures, place_below _ _ _ p.1 p.0 (λ e. p.2 (sym e)))

pub returns-then-all : goal.returns-then-all
unfolding slot_of
returns-then-all c =
    let p = c.requires in
    let a = c.args in
    let e : a.v * (a.h - 1) + c.among.result ≡ slot_of a.all a.h a.u a.v = rw (c.if-all.true, c.among.ensures) in
    (rw e (slot_lt a.h a.u p.0 a.all a.v p.1 p.2), e)

pub returns-else-all : goal.returns-else-all
unfolding slot_of
returns-else-all c =
    let p = c.requires in
    let a = c.args in
    let e : c.among-else-all.result ≡ slot_of a.all a.h a.u a.v = rw (c.if-all.false, c.among-else-all.ensures) in
    (rw e (slot_lt a.h a.u p.0 a.all a.v p.1 p.2), e)
