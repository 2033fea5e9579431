-- `inverting::products` meets its contract: one element more at a time. Assumes nothing.
use Rattle.inverting.specs.Inverses.{Products}
use Rattle.inverting.proofs.products.Given as goal

abbrev pub invariant-loop-i : goal.invariant-loop-i
invariant-loop-i l = Products l.q l.row l.i l.initial.out l.out l.all
