-- `steps::begin` meets its contract: by its class. Assumes nothing.
use mathlib.Core.Path.{◌≡◌, sym, ap, ap₂, ◌∙◌}
use Prim.Native.Nat.{◌-◌, ◌*◌}
use native.Mathlib.Omega.{arith}
use Rattle.classes.specs.Classes.{rank_class, turning_rank}
use Rattle.classes.proofs.Layouts.{ready_dead, bounded}
use Rattle.classes.proofs.Ranks.{Rank, turning_rank_lem, rank_class_le}
use Rattle.steps.proofs.Beginning.{begin_low}
use Rattle.steps.proofs.begin.Goals as goal
use Rattle.steps.proofs.begin.Goals.{Else-class-eq0}

-- the rank that turns its class
turned : (c : Else-class-eq0) →
    let a = c.args in
    (a.g.batch * (c.rank_class-class.result - 1) ≡ turning_rank a.dead.now (rank_class a.dead.now a.v))
    × Rank a.dead.now (turning_rank a.dead.now (rank_class a.dead.now a.v)) 0 0
unfolding turning_rank
turned c =
    let k = c.rank_class-class.ensures in
    (ap₂ (λ x y. x * (y - 1)) c.requires.ready.0.batch_is k, turning_rank_lem _ _ (let z = c.if-class-eq0.false in omega arith) (rank_class_le _ _))

pub overflow_mul-turning : goal.overflow_mul-turning
overflow_mul-turning c =
    let R = c.requires.ready.0 in
    omega (arith, (turned c).0, (turned c).1.below, (bounded R).dead_high)

pub cross_from-requires-clause-ready : goal.cross_from-requires-clause-ready
cross_from-requires-clause-ready c =
    let p = c.requires.ready in
    let t = turned (goal.at.cross_from-requires-clause-ready c).Else-class-eq0 in
    (p.0, p.1, rw t.0 t.1.below, λ e. c.if-class-eq0.false (c.rank_class-class.ensures ∙ ap (rank_class c.args.dead.now) (sym e ∙ t.0) ∙ t.1.class), omega arith, p.2, rw (t.0, t.1.class) p.3)

pub cross_from-requires-clause-low : goal.cross_from-requires-clause-low
cross_from-requires-clause-low c =
    let t = turned (goal.at.cross_from-requires-clause-low c).Else-class-eq0 in
    (c.requires.low.0, rw t.0 (begin_low (ready_dead c.requires.ready.0) _ (λ e. c.if-class-eq0.false (c.rank_class-class.ensures ∙ e)) _ _ c.requires.low.1))

pub returns : goal.returns
returns c =
    let t = turned (goal.at.returns c).Else-class-eq0 in
    record { own = λ z. absurd (c.if-class-eq0.false (c.rank_class-class.ensures ∙ z)); turned = λ d. (t.0, rw t.0 at c.cross_from.ensures) }
