-- `opening::open_runs` meets its contract. Assumes nothing.
use mathlib.Core.Bool.{true, false, false≢true}
use mathlib.Core.Path.{◌≡◌, refl, sym, ap, ◌∙◌}
use Prim.Native.Nat.{◌/◌, ◌^◌}
use native.Mathlib.Omega.{arith}
use native.Mathlib.Nat.{div-le_self}
use borrow.Author.Rules.{rules}
use Rattle.shape.proofs.Accepted.{shape_accepted}
use Rattle.rows.proofs.Rows.{low_replicate}
use Rattle.tables.specs.Tables.{table_size}
use Rattle.opening.specs.Steps.{OneOf, AtBlock, Missing}
use Rattle.opening.proofs.Places.{all_walked, walked_all}
use Rattle.opening.proofs.Walking.{walked_none, walked_on, walked_ends, walked_as}
use Rattle.filling.proofs.Filling.{block_room}
use Rattle.opening.proofs.open_runs.Goals as goal

pub two_to-two-requires : goal.two_to-two-requires
two_to-two-requires c = (shape_accepted _ c.requires.0.shape).n_high

pub run_of-run-requires : goal.run_of-run-requires
run_of-run-requires c = (shape_accepted _ c.requires.0.shape).n_high

pub nonzero_div-block-end : goal.nonzero_div-block-end
nonzero_div-block-end c = c.run_of-run.ensures.0

pub loop-block-init : goal.loop-block-init
loop-block-init c = (search rules, refl, refl, low_replicate _ table_size 0 (omega arith), walked_none _ _ _ _ _)

pub overflow_mul-block : goal.overflow_mul-block
overflow_mul-block c = omega (arith, block_room c.two_to-two.result c.run_of-run.result _ c.loop-block.block c.two_to-two.ensures c.run_of-run.ensures.2 c.loop-block-test.true, (shape_accepted _ c.requires.0.shape).places_high)

pub slice_bounds-open_layers-end : goal.slice_bounds-open_layers-end
slice_bounds-open_layers-end c = sym c.loop-block.invariant.2

pub open_layers-requires : goal.open_layers-requires
open_layers-requires c =
    let l = c.loop-block in
    let p = c.requires in
    (p.0, p.1, p.2, c.run_of-run.ensures.1, block_room c.two_to-two.result c.run_of-run.result _ c.loop-block.block c.two_to-two.ensures c.run_of-run.ensures.2 c.loop-block-test.true, l.invariant.2, l.invariant.3, p.3, omega (arith, p.4, l.invariant.4.long))

pub shape_of-transcript-then-not-open_layers : goal.shape_of-transcript-then-not-open_layers
shape_of-transcript-then-not-open_layers c = c.open_layers.ensures.2.long ∙ c.loop-block.invariant.4.long

pub returns-then-not-open_layers : goal.returns-then-not-open_layers
returns-then-not-open_layers c =
    let l = c.loop-block in
    let run = c.run_of-run in
    walked_as _ _ _ (OneOf (2 ^ c.args.s.n / run.result) (AtBlock c.args.s c.args.list.now run.result)) (Missing c.args.s c.args.list.now) _ _ false (walked_all c.args.s c.args.list.now run.result _ run.ensures.2) (λ z. absurd (false≢true z))
    (walked_ends _ _ _ _ _ l.block _ l.invariant.4 _ _ c.open_layers.ensures.2 _ (rw c.two_to-two.ensures at c.loop-block-test.true) c.if-not-open_layers.true)

pub overflow_step-block : goal.overflow_step-block
overflow_step-block c = omega (arith, c.loop-block-test.true, div-le_self c.two_to-two.result c.run_of-run.result, c.two_to-two.ensures, (shape_accepted _ c.requires.0.shape).places_high)

pub loop-block-preserved : goal.loop-block-preserved
loop-block-preserved c =
    let l = c.loop-block in
    let w = c.open_layers.ensures in
    (omega (arith, c.loop-block-test.true), refl, w.0, w.1, walked_on _ _ _ _ _ l.block _ l.invariant.4 _ _ w.2 c.if-not-open_layers.false)

pub shape_of-transcript : goal.shape_of-transcript
shape_of-transcript c = c.loop-block.invariant.4.long

pub returns : goal.returns
returns c =
    let l = c.loop-block in
    let run = c.run_of-run in
    let e : l.block ≡ 2 ^ c.args.s.n / run.result = (let z : l.block ≡ c.two_to-two.result / run.result = omega (arith, l.invariant.0) in z) ∙ ap (λ z. z / run.result) c.two_to-two.ensures in
    walked_as _ _ _ (OneOf l.block (AtBlock c.args.s c.args.list.now run.result)) (Missing c.args.s c.args.list.now) _ _ true (rw e (walked_all c.args.s c.args.list.now run.result _ run.ensures.2))
    (λ _. rw e (all_walked c.args.s c.args.list.now run.result _ run.ensures.2)) l.invariant.4
