-- `judging::judge_lists` meets its contract: causes 1, 2 and 3 in turn. Assumes nothing.
use mathlib.Core.Path.{◌≡◌, sym, ◌∙◌}
use mathlib.Core.Bool.{false}
use native.Mathlib.Omega.{arith}
use Rattle.shape.specs.Refusals.{shape_bad}
use Rattle.lists.proofs.Tests.{neither}
use Rattle.shape.proofs.Accepted.{shape_accepted, repair_accepted}
use Rattle.classes.specs.Classes.{batch}
use Rattle.judging.specs.Refusals.{lists_refusal}
use Rattle.classes.proofs.Sizes.{batch_pos}
use Rattle.judging.proofs.judge_lists.Goals as goal
use Rattle.judging.proofs.judge_lists.Goals.{Else-shape_bad}

pub returns-then-shape_bad : goal.returns-then-shape_bad
unfolding lists_refusal
returns-then-shape_bad c = rw (sym c.shape_bad.ensures ∙ c.if-shape_bad.true)

shaped : (c : Else-shape_bad) → shape_bad c.args.s ≡ false
shaped c = sym c.shape_bad.ensures ∙ c.if-shape_bad.false

pub repair_bad-requires : goal.repair_bad-requires
repair_bad-requires c = shaped c

pub returns-then-repair_bad-unnamed : goal.returns-then-repair_bad-unnamed
unfolding lists_refusal
returns-then-repair_bad-unnamed c = rw (shaped (goal.at.returns-then-repair_bad-unnamed c).Else-shape_bad, ← c.repair_bad.ensures, c.if-repair_bad-unnamed.true)

pub batch-requires : goal.batch-requires
batch-requires c =
    omega (arith, (repair_accepted _ _ _ (neither _ _ (rw c.repair_bad.ensures at c.if-repair_bad-unnamed.false)).0).few_dead, (shape_accepted _ (shaped (goal.at.batch-requires c).Else-shape_bad)).n_high)

pub layers_bad-requires : goal.layers_bad-requires
unfolding batch
layers_bad-requires c = rw c.batch.ensures (batch_pos c.args.dead.now)

pub returns-then-layers_bad : goal.returns-then-layers_bad
unfolding lists_refusal batch
returns-then-layers_bad c =
    rw (shaped (goal.at.returns-then-layers_bad c).Else-shape_bad, ← c.repair_bad.ensures, c.if-repair_bad-unnamed.false, ← c.batch.ensures, ← c.layers_bad.ensures, c.if-layers_bad.true)

pub returns : goal.returns
unfolding lists_refusal batch
returns c =
    rw (shaped (goal.at.returns c).Else-shape_bad, ← c.repair_bad.ensures, c.if-repair_bad-unnamed.false, ← c.batch.ensures, ← c.layers_bad.ensures, c.if-layers_bad.false)
