-- `correcting::add_to` meets its contract. Assumes nothing.
use mathlib.Core.Path.{ap}
use native.Mathlib.Omega.{arith}
use lib.ListN.{set}
use Rattle.correcting.proofs.add_to.Goals as goal

pub overflow_cast-nodes : goal.overflow_cast-nodes
overflow_cast-nodes c = omega (arith, c.slice_known-2-1.given c.args.at)

pub overflow_cast-nodes-2 : goal.overflow_cast-nodes-2
overflow_cast-nodes-2 c = omega (arith, c.add.ensures.0)

pub returns : goal.returns
returns c = let a = c.args in ap (set a.nodes.now a.at) c.add.ensures.1
