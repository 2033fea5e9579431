-- `tables::point_row` meets its contract. Assumes nothing.
use Rattle.std.proofs.Common.{◌≡◌, ◌-◌, ◌∙◌, ap, ℕ, cond, length, length-take, length-drop, arith}
use Rattle.lists.specs.Lists.{element}
use Rattle.lists.proofs.Stores.{stored_more}
use Rattle.code.specs.Code.{narrow}
use Rattle.rows.proofs.Rows.{stored_part}
use Rattle.tables.specs.Tables.{point_of, opposite_of}
use Rattle.tables.proofs.point_row.Goals as goal
use Rattle.tables.proofs.point_row.Goals.{then-opposite, else-opposite}

pub loop-t-preserved : goal.loop-t-preserved
loop-t-preserved c =
    let l = c.loop-t in
    let a = c.args in
    let f = element a.each.now in
    let stored : c.if-opposite.x ≡ cond a.opposite (opposite_of f a.node l.t) (point_of f a.node l.t) =
    unfold point_of opposite_of in elim c.if-opposite.branch [
      | then-opposite w ↦ rw w.if-opposite.true (w.x-is ∙ ap (λ z. narrow.modulus - z) c.point-p.ensures.1)
      | else-opposite w ↦ rw w.if-opposite.false (w.x-is ∙ c.point-p.ensures.1)
    ] in
    stored_more (λ k x. x ≡ cond a.opposite (opposite_of f a.node k) (point_of f a.node k)) l.x-items l.t _ 0 (omega arith) l.invariant stored

pub returns : goal.returns
returns c =
    let l = c.loop-t in
    let n : length l.x-items ≡ c.args.run = omega (arith, length-take {A = ℕ}, length-drop {A = ℕ}) in
    stored_part _ _ _ _ _ _ (omega arith) (omega arith) n (λ i h. l.invariant i (omega arith))
