-- `writing::store_transcript` meets its contract. Assumes nothing.
use Rattle.std.proofs.Common.{◌≡◌, length, length-take, get_or, ℕ, arith}
use Rattle.lists.proofs.Stores.{stored_more}
use Rattle.rows.proofs.Rows.{stored_part}
use Rattle.writing.proofs.store_transcript.Goals as goal

pub loop-b-preserved : goal.loop-b-preserved
loop-b-preserved c = let l = c.loop-b in stored_more (λ k x. x ≡ get_or c.args.transcript.now k 0) l.symbol-items l.b _ 0 (omega arith) l.invariant c.from.ensures

pub returns : goal.returns
returns c =
    let l = c.loop-b in
    let n : length l.symbol-items ≡ length c.args.transcript.now = omega (arith, length-take {A = ℕ}) in
    stored_part _ _ _ _ _ _ (omega arith) (omega arith) n (λ i h. l.invariant i (omega arith))
