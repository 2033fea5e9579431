-- `batches::fold_batch` meets its contract. Assumes nothing.
use mathlib.Core.Path.{◌∙◌}
use native.Mathlib.Omega.{arith}
use Rattle.code.specs.Code.{narrow}
use Rattle.batches.specs.Batches.{added_in}
use Rattle.batches.proofs.Batches.{turned_is, turned_none, first_in, far_in, remain_more}
use Rattle.batches.proofs.fold_batch.Goals as goal

pub bounds-symbols-a : goal.bounds-symbols-a
bounds-symbols-a c = first_in c.requires.1 c.loop-x.x (omega arith)

pub offset_bounds-symbols-a-in-loop-x : goal.offset_bounds-symbols-a-in-loop-x
offset_bounds-symbols-a-in-loop-x c = omega (arith, far_in c.requires.1 c.loop-x.x (omega arith))

pub bounds-symbols-a-in-loop-x : goal.bounds-symbols-a-in-loop-x
bounds-symbols-a-in-loop-x c = far_in c.requires.1 c.loop-x.x (omega arith)

pub loop-x-preserved : goal.loop-x-preserved
unfolding added_in
loop-x-preserved c =
    let l = c.loop-x in
    let a = c.args in
    remain_more narrow.modulus l.x _ (added_in narrow a.members.now a.turn a.symbols.now) l.sums l.invariant (omega arith) (c.folded.ensures ∙ rw (turned_none, turned_is))
