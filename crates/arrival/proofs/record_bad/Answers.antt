-- `arrival::record_bad` meets its contract: the count, then the nodes. Assumes nothing.
use mathlib.Core.Path.{sym, ap, ◌∙◌}
use native.Mathlib.Omega.{arith}
use Rattle.arrival.proofs.Records.{wrong, record_over, record_by}
use Rattle.arrival.proofs.record_bad.Goals as goal

pub returns-then-most-gt-MOST_NODES : goal.returns-then-most-gt-MOST_NODES
returns-then-most-gt-MOST_NODES c most e h = absurd (omega (arith, c.if-most-gt-MOST_NODES.true))

pub returns-then-most-heard_count : goal.returns-then-most-heard_count
returns-then-most-heard_count c most e h = sym (record_over _ _ _ (omega (arith, c.if-most-heard_count.true, c.heard_count.ensures)))

pub returns : goal.returns
returns c most e h =
    c.nodes_wrong.ensures ∙ ap (wrong _) c.heard_nodes.ensures
    ∙ sym (record_by most _ _ (omega (arith, c.if-most-heard_count.false, c.heard_count.ensures)))
