-- `shape::rises` meets its contract: the list rises where what is left of it rises from `low` on. Assumes nothing.
use mathlib.Core.Path.{sym, ◌∙◌}
use native.Mathlib.Omega.{arith}
use Rattle.lists.proofs.Scans.{rising_pass, rising_low, rising_high, rising_end}
use Rattle.shape.proofs.rises.Goals as goal

pub returns-then-node-low : goal.returns-then-node-low
returns-then-node-low c =
    let a = c.args in
    sym (c.loop-node.invariant.1 ∙ rising_low c.loop-node.low a.n a.list.now c.loop-node.node-index (omega arith) (omega arith))

pub returns-then-n-node : goal.returns-then-n-node
returns-then-n-node c =
    let a = c.args in
    sym (c.loop-node.invariant.1 ∙ rising_high c.loop-node.low a.n a.list.now c.loop-node.node-index (omega arith) (omega arith) (omega arith))

pub loop-node-preserved : goal.loop-node-preserved
loop-node-preserved c =
    let a = c.args in
    (omega arith, c.loop-node.invariant.1 ∙ rising_pass c.loop-node.low a.n a.list.now c.loop-node.node-index (omega arith) (omega arith) (omega arith))

pub returns : goal.returns
returns c = sym (c.loop-node.invariant.1 ∙ rising_end _ _ _ _ c.loop-node-test.false)
