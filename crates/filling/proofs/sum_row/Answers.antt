-- `filling::sum_row` meets its contract. Assumes nothing.
use Rattle.std.proofs.Common.{arith}
use Rattle.filling.proofs.Summing.{summed_none, sum_fits, summed_more}
use Rattle.filling.proofs.sum_row.Goals as goal

pub loop-j-init : goal.loop-j-init
loop-j-init c = summed_none _ _ _ _ _ _ _ c.requires

pub add_products-requires : goal.add_products-requires
add_products-requires c =
    let l = c.loop-j in (
      c.requires.few,
      omega (arith, c.requires.room, c.requires.few),
      c.requires.inside l.j (omega arith),
      sum_fits _ _ _ _ _ _ _ c.requires l.j (omega arith) l.sums l.invariant,
      l.invariant.long,
    )

pub loop-j-preserved : goal.loop-j-preserved
loop-j-preserved c =
    let l = c.loop-j in
    summed_more _ _ _ _ _ _ _ c.requires l.j (omega arith) l.sums l.invariant _ c.add_products.ensures
