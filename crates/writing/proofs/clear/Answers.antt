-- `writing::clear` meets its contract. Assumes nothing.
use Rattle.std.proofs.Common.{◌≡◌, ap, ◌∙◌, length, length-take, length-drop, get_or, ℕ, arith, rules}
use lib.ListN.{get_or-replicate}
use Rattle.rows.proofs.Rows.{stored_part}
use Rattle.writing.specs.Steps.{nothing}
use Rattle.writing.proofs.clear.Goals as goal

pub returns : goal.returns
unfolding nothing
returns c =
    let zeros = c.fill.ensures.after (λ y h. search rules) in
    let n : length c.fill.new.self ≡ c.args.count = omega (arith, c.fill.ensures.len, length-take {A = ℕ}, length-drop {A = ℕ}) in
    stored_part _ _ _ _ _ _ (omega arith) (omega arith) n (λ i h. ap (λ xs. get_or xs i 0) zeros ∙ search (rules, get_or-replicate))
