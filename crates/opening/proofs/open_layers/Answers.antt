-- `opening::open_layers` meets its contract. Assumes nothing.
use mathlib.Core.Bool.{true}
use mathlib.Core.Path.{◌≡◌, sym, ◌∙◌, subst}
use Prim.Native.Nat.{◌+◌, ◌*◌, ◌^◌, ◌≤◌}
use native.Mathlib.Omega.{arith}
use native.Mathlib.Nat.{mul-le-mul_right}
use borrow.Author.Rules.{rules}
use Rattle.shape.proofs.Accepted.{shape_accepted, most_size}
use Rattle.shape.specs.Shape.{size}
use Rattle.opening.specs.Steps.{opened, Walked, OneOf, AtLayer}
use Rattle.opening.proofs.Places.{table_factors}
use Rattle.opening.proofs.Walking.{walked_none, walked_on, walked_ends}
use Rattle.opening.proofs.open_layers.Goals as goal
use Rattle.opening.proofs.open_layers.Goals.{In-loop-layer}

pub two_to-two-requires : goal.two_to-two-requires
two_to-two-requires c = (shape_accepted _ c.requires.0.shape).n_high

pub run_multipliers-requires : goal.run_multipliers-requires
run_multipliers-requires c =
    let p = c.requires in
    let w = shape_accepted _ p.0.shape in
    (w.n_high, omega (arith, w.k_high), p.3, p.4, p.0.up, p.1, p.2, p.5, p.6)

pub loop-layer-init : goal.loop-layer-init
loop-layer-init c = (search rules, walked_none _ _ _ _ _)

-- a layer's places lie within a node, and a node has few
layer_room : (c : In-loop-layer) →
    let a = c.args in
    let two = c.two_to-two.result in
    (c.loop-layer.layer * two + a.a + a.run ≤ size a.s) × (size a.s ≤ most_size)
unfolding size
layer_room c =
    let m = mul-le-mul_right (2 ^ c.args.s.n) (let z : c.loop-layer.layer + 1 ≤ c.args.s.layers = omega (arith, c.loop-layer-test.true) in z) in
    rw c.two_to-two.ensures (omega (arith, c.requires.4, m), (shape_accepted _ c.requires.0.shape).size_high)

pub overflow_mul-layer : goal.overflow_mul-layer
overflow_mul-layer c = omega (arith, layer_room c)

pub overflow_add-layer : goal.overflow_add-layer
overflow_add-layer c = omega (arith, layer_room c)

pub open_run-requires : goal.open_run-requires
open_run-requires c =
    let l = c.loop-layer in
    let p = c.requires in
    let m = c.run_multipliers.ensures in
    let e = c.two_to-two.ensures in (
      p.0,
      p.1,
      p.3,
      (layer_room (goal.at.open_run-requires c).In-loop-layer).0,
      m.long,
      m.low,
      rw e (table_factors c.args.s c.args.list.now c.args.symbols.now p.0 c.args.a c.args.run l.layer _ p.4 m),
      p.7,
      omega (arith, p.8, l.invariant.1.long),
    )

pub shape_of-table-then-not-open_run : goal.shape_of-table-then-not-open_run
shape_of-table-then-not-open_run c = c.run_multipliers.ensures.long ∙ sym c.requires.5

pub shape_of-transcript-then-not-open_run : goal.shape_of-transcript-then-not-open_run
shape_of-transcript-then-not-open_run c = c.open_run.ensures.long ∙ c.loop-layer.invariant.1.long

pub returns-then-not-open_run : goal.returns-then-not-open_run
returns-then-not-open_run c =
    let l = c.loop-layer in
    let m = c.run_multipliers.ensures in
    (m.long, m.low, walked_ends _ _ _ _ _ l.layer _ l.invariant.1 _ _ (rw c.two_to-two.ensures at c.open_run.ensures) _ c.loop-layer-test.true c.if-not-open_run.true)

pub overflow_step-layer : goal.overflow_step-layer
overflow_step-layer c = omega (arith, c.loop-layer-test.true, (shape_accepted _ c.requires.0.shape).layers_high)

pub loop-layer-preserved : goal.loop-layer-preserved
loop-layer-preserved c =
    let l = c.loop-layer in
    (omega (arith, c.loop-layer-test.true), walked_on _ _ _ _ _ l.layer _ l.invariant.1 _ _ (rw c.two_to-two.ensures at c.open_run.ensures) c.if-not-open_run.false)

pub shape_of-table : goal.shape_of-table
shape_of-table c = c.run_multipliers.ensures.long ∙ sym c.requires.5

pub shape_of-transcript : goal.shape_of-transcript
shape_of-transcript c = c.loop-layer.invariant.1.long

pub returns : goal.returns
returns c =
    let l = c.loop-layer in
    let a = c.args in
    let m = c.run_multipliers.ensures in
    let e : l.layer ≡ a.s.layers = omega (arith, l.invariant.0) in (
      m.long,
      m.low,
      subst (λ k. Walked (opened a.s a.list.now a.symbols.now) a.len a.room (OneOf k (AtLayer a.s a.list.now a.run a.a)) a.transcript.now l.transcript true) e l.invariant.1,
    )
