-- `picking::look_up_row` meets its contract. Assumes nothing.
use Rattle.std.proofs.Common.{◌≡◌, ℕ, get_or, length, length-take, length-drop, ap, ◌∙◌, arith}
use Rattle.lists.proofs.Stores.{stored_more}
use Rattle.picking.specs.Picking.{looked_up, looked_at}
use Rattle.rows.proofs.Rows.{stored_part}
use Rattle.picking.proofs.look_up_row.Goals as goal

pub loop-t-preserved : goal.loop-t-preserved
unfolding looked_at
loop-t-preserved c =
    let l = c.loop-t in
    let a = c.args in
    stored_more (λ k x. x ≡ looked_at a.a a.node a.picks.now a.last k) l.looked-items l.t _ 0 (omega arith) l.invariant
    (c.looked_up.ensures ∙ ap (λ x. looked_up x (get_or a.picks.now l.t 0) a.last) c.bit.ensures)

pub returns : goal.returns
returns c =
    let l = c.loop-t in
    let n : length l.looked-items ≡ c.args.run = omega (arith, length-take {A = ℕ}, length-drop {A = ℕ}) in
    stored_part _ _ _ _ _ _ (omega arith) (omega arith) n (λ i h. l.invariant i (omega arith))
