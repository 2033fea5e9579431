-- `steps::recover_with` meets its contract: the places of the ranks passed are settled. Assumes nothing.
use mathlib.Core.Path.{◌≡◌, refl, subst, ◌∙◌}
use Prim.Native.Nat.{◌<◌}
use native.Mathlib.Omega.{arith}
use lib.ListN.{length}
use Rattle.code.specs.Code.{narrow}
use Rattle.classes.proofs.Layouts.{ready_dead}
use Rattle.steps.specs.Storing.{LowAt}
use Rattle.steps.proofs.Recovery.{Known, next_low, begun, skipped, crossed, recovered}
use Rattle.steps.proofs.recover_with.Goals as goal
use Rattle.steps.proofs.recover_with.Goals.{In-loop-u}

pub loop-u-preserved-then-u-v : goal.loop-u-preserved-then-u-v
loop-u-preserved-then-u-v c =
    let l = c.loop-u in (
      omega arith,
      refl,
      l.invariant.2,
      λ pairs K. skipped narrow (ready_dead c.requires.ready.0) _ c.requires.ready.1 _ _ _ _ _ c.begin-turning.ensures _ (omega arith) _ (l.invariant.3 pairs K) c.if-u-v.true,
      l.invariant.4,
      l.invariant.5,
    )

-- what rank u's sums are taken across is below the modulus
near : (c : In-loop-u) →
    let a = c.args in
    LowAt narrow.modulus a.g.shape a.dead.now c.loop-u.u 0 c.loop-u.symbols
near c =
    let D = ready_dead c.requires.ready.0 in
    let O = c.requires.low.1 in
    next_low narrow D _ c.requires.ready.1 _ _ _ _ (omega arith) O.low
    (c.loop-u.invariant.3 O.pairs (begun narrow D _ c.requires.ready.1 _ _ _ _ _ c.begin-turning.ensures O.paired))

pub cross_from-requires-clause-low : goal.cross_from-requires-clause-low
cross_from-requires-clause-low c = (c.requires.low.0, near (goal.at.cross_from-requires-clause-low c).In-loop-u)

pub loop-u-preserved : goal.loop-u-preserved
loop-u-preserved c =
    let l = c.loop-u in
    let r = c.relist-in-loop-u in
    let h : l.u < length c.args.dead.now = omega arith in (
      omega arith,
      refl,
      c.cross_from.auto.symbols ∙ l.invariant.2,
      λ pairs K.
          crossed narrow (ready_dead c.requires.ready.0) _ c.requires.ready.1 _ _ _ _ _ c.begin-turning.ensures _ (omega arith) _ (l.invariant.3 pairs K) c.if-u-v.false _ c.cross_from.ensures,
      r.auto.table ∙ l.invariant.4,
      r.ensures,
    )

pub returns : goal.returns
returns c =
    let l = c.loop-u in
    let D = ready_dead c.requires.ready.0 in
    let e : l.u ≡ length c.args.dead.now = omega arith in
    record {
      whole = λ pairs G.
          recovered narrow D c.args.v c.requires.ready.1 pairs c.args.received.now l.symbols
          (subst (λ z. Known narrow c.args.g.shape c.args.dead.now c.args.v pairs c.args.received.now z l.symbols) e
          (l.invariant.3 pairs (begun narrow D _ c.requires.ready.1 pairs _ _ _ _ c.begin-turning.ensures G)));
    }
