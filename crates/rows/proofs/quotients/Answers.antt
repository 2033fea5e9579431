-- `rows::quotients` meets its contract. Assumes nothing.
use Rattle.std.proofs.Common.{◌≡◌, length, length-take, length-drop, ℕ, arith}
use Rattle.lists.proofs.Stores.{stored_more}
use Rattle.rows.specs.Rows.{quotient}
use Rattle.rows.proofs.Rows.{stored_part, product_opposite}
use Rattle.rows.proofs.quotients.Goals as goal

pub loop-i-preserved : goal.loop-i-preserved
unfolding quotient
loop-i-preserved c =
    let l = c.loop-i in
    stored_more (λ k x. x ≡ quotient c.args.q c.args.tops c.args.inverted k) l.multiplier-items l.i _ 0 (omega arith) l.invariant
    (product_opposite c.args.q _ _ (c.requires.4.at l.i))

pub returns : goal.returns
returns c =
    let l = c.loop-i in
    let n : length l.multiplier-items ≡ c.args.run = omega (arith, length-take {A = ℕ}, length-drop {A = ℕ}) in
    stored_part _ _ _ _ _ _ (omega arith) (omega arith) n (λ i h. l.invariant i (omega arith))
