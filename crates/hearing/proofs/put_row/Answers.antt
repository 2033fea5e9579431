-- `hearing::put_row` meets its contract. Assumes nothing.
use Rattle.std.proofs.Common.{◌≡◌, length, length-take, length-drop, ℕ, arith, rules}
use Rattle.std.proofs.lemmas.List.{places}
use Rattle.rows.proofs.Rows.{stored_part}
use Rattle.hearing.proofs.put_row.Goals as goal

pub returns : goal.returns
returns c =
    let n : length c.copy_from_slice.new.self ≡ c.args.r = omega (arith, length-take {A = ℕ}, length-drop {A = ℕ}) in
    stored_part _ _ _ _ _ _ (omega arith) (omega arith) n (λ i h. search (rules, places))
