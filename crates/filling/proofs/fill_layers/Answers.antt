-- `filling::fill_layers` meets its contract. Assumes nothing.
use Rattle.std.proofs.Common.{◌≡◌, ◌+◌, ◌*◌, ◌^◌, ◌≤◌, subst, arith}
use lib.Pow.{pow_pos}
use Rattle.shape.specs.Shape.{size}
use Rattle.shape.proofs.Accepted.{most_size}
use Rattle.filling.specs.Filling.{Filled, InLayers}
use Rattle.filling.proofs.Filling.{run_filled, layer_room, layers_more, still_fillable}
use Rattle.filling.proofs.fill_layers.Goals as goal
use Rattle.filling.proofs.fill_layers.Goals.{In-loop-layer}

room : (c : In-loop-layer) →
    let s = c.args in
    let two = c.two_to-two.result in
    (c.loop-layer.layer * two + s.a + s.run ≤ s.s.layers * two) × (s.s.layers * two ≤ most_size)
room c = layer_room c.args.s _ _ _ _ c.requires.0 c.requires.5 c.loop-layer-test.true c.two_to-two.ensures

pub overflow_mul-layers : goal.overflow_mul-layers
overflow_mul-layers c = omega (arith, room c)

pub overflow_mul-layer : goal.overflow_mul-layer
overflow_mul-layer c = omega (arith, room c)

pub overflow_add-layer : goal.overflow_add-layer
overflow_add-layer c = omega (arith, room c)

pub fill_run-requires : goal.fill_run-requires
unfolding size
fill_run-requires c =
    let m = c.run_multipliers.ensures in
    (rw c.two_to-two.ensures (still_fillable _ _ _ _ _ _ c.requires.1 c.loop-layer.invariant), c.requires.2, c.requires.4, (room (goal.at.fill_run-requires c).In-loop-layer).0, m.long, m.low)

pub loop-layer-preserved : goal.loop-layer-preserved
loop-layer-preserved c =
    let l = c.loop-layer in
    layers_more _ c.args.s.layers _ _ _ c.requires.1.up c.requires.5 (pow_pos c.args.s.n) _ l.layer _ _ _ l.invariant
    (run_filled _ _ l.layer _ _ _ _ _ _ c.requires.5 c.run_multipliers.ensures (rw c.two_to-two.ensures at c.fill_run.ensures))

pub returns : goal.returns
unfolding size
returns c =
    let l = c.loop-layer in
    let s = c.args in
    let m = c.run_multipliers.ensures in
    let e : l.layer ≡ s.s.layers = omega arith in
    (m.long, m.low, subst (λ k. Filled s.s.n (s.s.layers * 2 ^ s.s.n) s.list.now (InLayers (2 ^ s.s.n) s.a s.run k) s.nodes.now l.nodes) e l.invariant)
