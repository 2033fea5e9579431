-- `plan::judge_lists` meets its contract: input left over, the lists, the layers in turn. Assumes nothing.
use mathlib.Core.Path.{◌≡◌, sym, ap, ◌∙◌}
use Rattle.shape.specs.Refusals.{layers_bad}
use Rattle.shape.proofs.Batches.{batch_positive}
use Rattle.classes.specs.Classes.{batch}
use Rattle.transfers.specs.Plan.{lists_number}
use Rattle.plan.proofs.judge_lists.Goals as goal
use Rattle.plan.proofs.judge_lists.Goals.{After-layers_bad-bad_layers}

pub layers_bad-bad_layers-requires : goal.layers_bad-bad_layers-requires
layers_bad-bad_layers-requires c = rw c.batch.ensures (batch_positive _)

-- the test of the layers
layers : (c : After-layers_bad-bad_layers) →
    let a = c.args in
    layers_bad a.s.layers (batch a.dead.now) ≡ c.layers_bad-bad_layers.result
unfolding batch
layers c = ap (layers_bad c.args.s.layers) (sym c.batch.ensures) ∙ sym c.layers_bad-bad_layers.ensures

pub returns-then-left : goal.returns-then-left
unfolding lists_number
returns-then-left c = simp c.if-left.true

pub returns-then-bad_lists : goal.returns-then-bad_lists
unfolding lists_number
returns-then-bad_lists c = simp (c.if-left.false, sym c.repair_bad-bad_lists.ensures, c.if-bad_lists.true)

pub returns-then-bad_layers : goal.returns-then-bad_layers
unfolding lists_number
returns-then-bad_layers c =
    simp (c.if-left.false, sym c.repair_bad-bad_lists.ensures, c.if-bad_lists.false, layers (goal.at.returns-then-bad_layers c).After-layers_bad-bad_layers, c.if-bad_layers.true)

pub returns : goal.returns
unfolding lists_number
returns c =
    simp (c.if-left.false, sym c.repair_bad-bad_lists.ensures, c.if-bad_lists.false, layers (goal.at.returns c).After-layers_bad-bad_layers, c.if-bad_layers.false)
