-- `rows::copy` meets its contract. Assumes nothing.
use Rattle.std.proofs.Common.{◌≡◌, refl, length, length-take, length-drop, ℕ, arith}
use Rattle.lists.proofs.Stores.{stored_more}
use Rattle.rows.specs.Rows.{copied}
use Rattle.rows.proofs.Rows.{stored_part}
use Rattle.rows.proofs.copy.Goals as goal

pub loop-i-preserved : goal.loop-i-preserved
unfolding copied
loop-i-preserved c = let l = c.loop-i in stored_more (λ k x. x ≡ copied c.args.symbols.now c.args.s k) l.symbol-items l.i _ 0 (omega arith) l.invariant refl

pub returns : goal.returns
returns c =
    let l = c.loop-i in
    let n : length l.symbol-items ≡ c.args.count = omega (arith, length-take {A = ℕ}, length-drop {A = ℕ}) in
    stored_part _ _ _ _ _ _ (omega arith) (omega arith) n (λ i h. l.invariant i (omega arith))
