-- `arrival::heard_nodes` meets its contract: nothing, or what stands behind the count as far as it counts. Assumes nothing.
use native.Mathlib.Omega.{arith}
use Rattle.arrival.proofs.Records.{nodes_none, nodes_front}
use Rattle.arrival.proofs.heard_nodes.Goals as goal

pub returns-in-empty : goal.returns-in-empty
returns-in-empty c = nodes_none _ (omega arith)

pub returns-in-len1-up : goal.returns-in-len1-up
returns-in-len1-up c = nodes_front _ _ (omega arith) c.min-last.ensures
