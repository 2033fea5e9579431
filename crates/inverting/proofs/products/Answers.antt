-- `inverting::products` meets its contract: one element more at a time. Assumes nothing.
use Rattle.std.proofs.Common.{arith}
use Rattle.inverting.proofs.Inverses.{products_none, products_more}
use Rattle.inverting.proofs.products.Goals as goal

pub loop-i-init : goal.loop-i-init
loop-i-init c = products_none _ _ _

pub loop-i-preserved : goal.loop-i-preserved
loop-i-preserved c = let l = c.loop-i in products_more _ _ _ _ _ _ l.out (omega (arith, c.requires.1)) l.invariant c.multiply-all.ensures.1
