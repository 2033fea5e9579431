-- `filling::fill_run` meets its contract. Assumes nothing.
use Rattle.std.proofs.Common.{sym, ◌∙◌, arith}
use Rattle.filling.proofs.Filling.{filled_run_skip, filled_run_more, fill_summable, table_room}
use Rattle.filling.proofs.fill_run.Goals as goal

pub loop-i-preserved-then-marked-i : goal.loop-i-preserved-then-marked-i
loop-i-preserved-then-marked-i c =
    let l = c.loop-i in
    filled_run_skip _ _ _ _ _ _ _ c.requires.0 c.requires.3 l.i _ l.invariant (sym (c.requires.1.each l.i (omega arith)) ∙ c.if-marked-i.true)

pub sum_row-sums-requires : goal.sum_row-sums-requires
sum_row-sums-requires c =
    let l = c.loop-i in
    fill_summable _ _ _ _ _ _ _ c.requires.0 c.requires.3 l.i _ l.invariant c.requires.5 c.requires.2 (omega (arith, c.requires.4, table_room _ _ l.i _ _ c.requires.0 (omega arith)))

pub loop-i-preserved : goal.loop-i-preserved
loop-i-preserved c =
    let l = c.loop-i in
    filled_run_more _ _ _ _ _ _ _ c.requires.0 c.requires.3 l.i _ l.invariant (omega arith) (sym (c.requires.1.each l.i (omega arith)) ∙ c.if-marked-i.false)
    _ _ c.sum_row-sums.ensures c.store.ensures
