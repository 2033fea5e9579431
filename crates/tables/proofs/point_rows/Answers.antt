-- `tables::point_rows` meets its contract. Assumes nothing.
use mathlib.Core.Path.{◌≡◌, sym, subst, ◌∙◌}
use native.Mathlib.Omega.{arith}
use Rattle.lists.specs.Lists.{element}
use Rattle.tables.specs.Tables.{node_points, PointRows}
use Rattle.tables.proofs.Tables.{point_rows_none, point_rows_more, point_is}
use Rattle.tables.proofs.point_rows.Goals as goal

pub loop-node-init : goal.loop-node-init
loop-node-init c = point_rows_none _ _ _ c.requires.3 c.requires.4

pub point_row-requires : goal.point_row-requires
point_row-requires c =
    let l = c.loop-node in
    (omega arith, omega (arith, l.invariant.long), c.requires.2)

pub loop-node-preserved : goal.loop-node-preserved
loop-node-preserved c =
    let l = c.loop-node in
    point_rows_more l.node _ _ _ _ _ c.requires.1 l.invariant c.point_row.ensures (λ t h. point_is c.args.n (element c.args.each.now) c.requires.0 l.node (omega arith) t)

pub shape_of-out : goal.shape_of-out
shape_of-out c = c.loop-node.invariant.long ∙ sym c.requires.3

pub returns : goal.returns
returns c =
    let l = c.loop-node in
    let e : l.node ≡ c.args.n = omega arith in
    subst (λ m. PointRows m (node_points c.args.n (element c.args.each.now)) c.args.run l.out) e l.invariant
