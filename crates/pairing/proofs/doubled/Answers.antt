-- `pairing::doubled` meets its contract. Assumes nothing.
use borrow.Author.Rules.{rules}
use Rattle.pairing.proofs.doubled.Goals as goal

pub returns : goal.returns
returns c = let m = c.from_fn.ensures.items in (m.long, λ t h. let w = m.at t 0 h in search rules)
