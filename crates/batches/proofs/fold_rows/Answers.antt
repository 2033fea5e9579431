-- `batches::fold_rows` meets its contract. Assumes nothing.
use mathlib.Core.Path.{◌∙◌}
use native.Mathlib.Omega.{arith}
use lib.ListN.{length}
use Rattle.lists.specs.Lists.{range}
use Rattle.code.specs.Code.{narrow}
use Rattle.batches.specs.Batches.{added_in}
use Rattle.batches.proofs.Batches.{remain_more, row_near, row_far, row_added}
use Rattle.batches.proofs.fold_rows.Goals as goal

pub bounds-symbols-x : goal.bounds-symbols-x
bounds-symbols-x c = row_near _ c.loop-x.x (omega arith) c.requires

pub offset_bounds-symbols-x-in-loop-x : goal.offset_bounds-symbols-x-in-loop-x
offset_bounds-symbols-x-in-loop-x c = omega (arith, row_far _ c.loop-x.x (omega arith) c.requires)

pub bounds-symbols-x-in-loop-x : goal.bounds-symbols-x-in-loop-x
bounds-symbols-x-in-loop-x c = row_far _ c.loop-x.x (omega arith) c.requires

pub loop-x-preserved : goal.loop-x-preserved
loop-x-preserved c =
    let l = c.loop-x in
    remain_more narrow.modulus l.x _ (added_in narrow (range 0 (length c.args.sums.now)) c.args.turn c.args.symbols.now) l.sums l.invariant (omega arith) (c.folded.ensures ∙ row_added _ l.x (omega arith) narrow _ _)
