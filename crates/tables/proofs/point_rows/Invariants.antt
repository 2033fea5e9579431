-- `tables::point_rows` meets its contract. Assumes nothing.
use Rattle.lists.specs.Lists.{element}
use Rattle.tables.specs.Tables.{node_points, PointRows}
use Rattle.tables.proofs.point_rows.Given as goal

abbrev pub invariant-loop-node : goal.invariant-loop-node
invariant-loop-node l = PointRows l.node (node_points l.n (element l.each)) l.run l.out
