-- `picking::pick_row` meets its contract. Assumes nothing.
use Rattle.std.proofs.Common.{◌≡◌, ℕ, ◌+◌, get_or, length, length-take, length-drop, ap, arith}
use Rattle.lists.proofs.Stores.{stored_more}
use Rattle.picking.specs.Picking.{picked}
use Rattle.rows.proofs.Rows.{stored_part}
use Rattle.picking.proofs.pick_row.Goals as goal

pub loop-t-preserved : goal.loop-t-preserved
unfolding picked
loop-t-preserved c =
    let l = c.loop-t in
    let a = c.args in
    stored_more (λ k x. x ≡ picked a.looked.now a.row a.source.now a.at k) l.element-items l.t _ 0 (omega arith) l.invariant
    (ap (λ p. get_or a.source.now (a.at + p) 0) c.from.ensures)

pub returns : goal.returns
returns c =
    let l = c.loop-t in
    let n : length l.element-items ≡ c.args.run = omega (arith, length-take {A = ℕ}, length-drop {A = ℕ}) in
    stored_part _ _ _ _ _ _ (omega arith) (omega arith) n (λ i h. l.invariant i (omega arith))
