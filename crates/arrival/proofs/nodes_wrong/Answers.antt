-- `arrival::nodes_wrong` meets its contract: the nodes are wrong where those that are left are. Assumes nothing.
use mathlib.Core.Path.{refl, sym, ap, ◌∙◌}
use Prim.Native.Nat.{◌+◌, ◌-◌}
use native.Mathlib.Omega.{arith}
use borrow.Author.Rules.{rules}
use Rattle.lists.specs.Lists.{member}
use Rattle.lists.proofs.Parts.{tail_lent}
use Rattle.arrival.proofs.Records.{wrong_stop, wrong_on, wrong_end}
use Rattle.arrival.proofs.nodes_wrong.Goals as goal

pub returns-then-listed : goal.returns-then-listed
returns-then-listed c =
    sym (c.loop-j.invariant.1 ∙ wrong_stop _ _ _ _ _ c.loop-j-test.true (c.listed.ensures ∙ ap (member _) (tail_lent (c.loop-j.j + 1) c.args.nodes.now (omega arith))) c.listed-in-loop-j.ensures c.if-listed.true)

pub loop-j-preserved : goal.loop-j-preserved
loop-j-preserved c =
    (search rules, c.loop-j.invariant.1 ∙ wrong_on _ _ _ _ _ c.loop-j-test.true (c.listed.ensures ∙ ap (member _) (tail_lent (c.loop-j.j + 1) c.args.nodes.now (omega arith))) c.listed-in-loop-j.ensures c.if-listed.false)

pub returns : goal.returns
returns c = sym (c.loop-j.invariant.1 ∙ wrong_end _ _ _ c.loop-j-test.false)

pub loop-j-init : goal.loop-j-init
loop-j-init c = (search rules, refl)
