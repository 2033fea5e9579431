-- `comparing::runs_met` meets its contract: what would be filled in at the a passed is there already. Assumes nothing.
use Rattle.std.proofs.Common.{◌≡◌, ◌*◌, ◌/◌, ◌^◌, sym, ap, ◌∙◌, arith}
use native.Mathlib.Nat.{mul-le-mul_right}
use Rattle.shape.specs.Shape.{size}
use Rattle.rows.proofs.Rows.{low_replicate}
use Rattle.tables.specs.Tables.{table_size}
use Rattle.filling.proofs.Filling.{blocks_none, blocks_more}
use Rattle.comparing.specs.Comparing.{HeldTo}
use Rattle.comparing.proofs.runs_met.Goals as goal
use Rattle.comparing.proofs.runs_met.Goals.{At-loop-block}

pub loop-block-init : goal.loop-block-init
loop-block-init c =
    record { low = low_replicate _ table_size 0 (omega arith); filled = blocks_none _ c.args.s.layers _ _ c.requires.1.up _ _ }

-- the runs of a layer are all its places
blocks : (c : At-loop-block) →
    let run = c.run_of-run.result in
    c.two_to-two.result / run * run ≡ 2 ^ c.args.s.n
blocks c =
    let run = c.run_of-run.result in
    ap (λ k. k / run * run) c.two_to-two.ensures ∙ c.run_of-run.ensures.2

-- so what was passed is there, up to the number that is returned
held : (c : At-loop-block) →
    let s = c.args in
    HeldTo s.s s.list.now s.nodes.now (c.loop-block.block * c.run_of-run.result)
unfolding size
held c = record {
  high = omega (arith, blocks c, mul-le-mul_right c.run_of-run.result c.loop-block.auto.block-end);
  held = c.loop-block.invariant.filled;
}

pub returns-then-not-layers_met : goal.returns-then-not-layers_met
returns-then-not-layers_met c = held (goal.at.returns-then-not-layers_met c).At-loop-block

pub loop-block-preserved : goal.loop-block-preserved
unfolding size
loop-block-preserved c =
    let l = c.loop-block in
    let w = c.layers_met.ensures in
    record { low = w.1; filled = blocks_more _ c.args.s.layers _ _ c.requires.1.up l.block _ _ _ l.invariant.filled (w.2 c.if-not-layers_met.false) }

pub returns : goal.returns
returns c =
    let l = (goal.at.returns c).At-loop-block in
    let run = l.run_of-run.result in
    let e : l.loop-block.block ≡ l.two_to-two.result / run = omega arith in
    let z : l.loop-block.block * run ≡ l.two_to-two.result = ap (λ k. k * run) e ∙ blocks l ∙ sym l.two_to-two.ensures in
    rw z at (held l)
