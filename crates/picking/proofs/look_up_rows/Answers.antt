-- `picking::look_up_rows` meets its contract. Assumes nothing.
use Rattle.picking.proofs.Picking.{looked_more}
use Rattle.picking.proofs.look_up_rows.Goals as goal

pub loop-j-preserved : goal.loop-j-preserved
loop-j-preserved c =
    let l = c.loop-j in
    looked_more _ _ _ _ _ c.requires.2 c.requires.6 c.requires.5 l.j _ _ l.invariant c.look_up_row.ensures
