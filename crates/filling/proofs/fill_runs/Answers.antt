-- `filling::fill_runs` meets its contract. Assumes nothing.
use Rattle.std.proofs.Common.{◌≡◌, ◌*◌, ◌/◌, ap, ◌∙◌, arith}
use lib.Pow.{pow_pos}
use Rattle.shape.specs.Shape.{size}
use Rattle.rows.proofs.Rows.{low_replicate}
use Rattle.tables.specs.Tables.{table_size}
use Rattle.filling.proofs.Filling.{block_room, blocks_none, blocks_more, blocks_end, still_fillable}
use Rattle.filling.proofs.fill_runs.Goals as goal

pub loop-block-init : goal.loop-block-init
loop-block-init c =
    record { low = low_replicate _ table_size 0 (omega arith); filled = blocks_none _ c.args.s.layers _ _ c.requires.1.up _ _ }

pub fill_layers-requires : goal.fill_layers-requires
unfolding size
fill_layers-requires c =
    let l = c.loop-block in (
      c.requires.0,
      still_fillable _ _ _ _ _ _ c.requires.1 l.invariant.filled,
      c.requires.2,
      c.requires.3,
      c.run_of-run.ensures.1,
      block_room c.two_to-two.result c.run_of-run.result _ l.block c.two_to-two.ensures c.run_of-run.ensures.2 c.loop-block-test.true,
      c.loop-block-test.array_long,
      l.invariant.low,
    )

pub loop-block-preserved : goal.loop-block-preserved
unfolding size
loop-block-preserved c =
    let l = c.loop-block in
    let w = c.fill_layers.ensures in
    record { low = w.1; filled = blocks_more _ c.args.s.layers _ _ c.requires.1.up l.block _ _ _ l.invariant.filled w.2 }

pub returns : goal.returns
unfolding size
returns c =
    let l = c.loop-block in
    let run = c.run_of-run.result in
    let e : l.block ≡ c.two_to-two.result / run = omega arith in
    blocks_end _ c.args.s.layers run _ c.requires.1.up _ l.block _ _ (ap (λ k. k * run) e ∙ ap (λ k. k / run * run) c.two_to-two.ensures ∙ c.run_of-run.ensures.2)
    (pow_pos c.args.s.n) l.invariant.filled
