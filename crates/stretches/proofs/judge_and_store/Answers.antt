-- `stretches::judge_and_store` meets its contract. Assumes nothing.
use mathlib.Core.Path.{◌∙◌}
use native.Mathlib.Omega.{arith}
use Rattle.stretches.proofs.Opened.{wanted_turned, wanted_stored}
use borrow.Author.Rules.{rules}
use Rattle.stretches.proofs.judge_and_store.Goals as goal

pub walk-requires : goal.walk-requires
walk-requires c = let p = c.requires in (p.0, p.1, p.2, search rules, search rules)

pub shape_of-bytes-then-not-walk : goal.shape_of-bytes-then-not-walk
shape_of-bytes-then-not-walk c = c.walk.ensures.long

pub returns-then-not-walk : goal.returns-then-not-walk
returns-then-not-walk c = let p = c.requires in wanted_turned _ _ _ _ p.0 _ p.3 _ _ c.if-not-walk.true c.walk.ensures

pub walk-requires-2 : goal.walk-requires-2
walk-requires-2 c = let p = c.requires in (p.0, p.1, p.2, search rules, omega (arith, c.walk.ensures.long))

pub shape_of-bytes : goal.shape_of-bytes
shape_of-bytes c = c.walk-2.ensures.long ∙ c.walk.ensures.long

pub returns : goal.returns
returns c = let p = c.requires in wanted_stored _ _ _ _ p.0 _ p.3 _ _ _ _ c.if-not-walk.false c.walk.ensures c.walk-2.ensures
