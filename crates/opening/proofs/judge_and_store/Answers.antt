-- `opening::judge_and_store` meets its contract. Assumes nothing.
use native.Mathlib.Omega.{arith}
use borrow.Author.Rules.{rules}
use Rattle.opening.proofs.Judged.{readable, turned_back, judged_stored}
use Rattle.opening.proofs.judge_and_store.Goals as goal

pub walk-requires : goal.walk-requires
walk-requires c =
    let p = c.requires in
    (readable _ _ _ _ _ p.0, p.1, p.2, search rules, search rules)

pub returns-then-not-walk : goal.returns-then-not-walk
returns-then-not-walk c = turned_back _ _ _ _ c.requires.0 _ _ c.if-not-walk.true c.walk.ensures

pub shape_of-transcript-then-not-walk : goal.shape_of-transcript-then-not-walk
shape_of-transcript-then-not-walk c = (returns-then-not-walk c).long

pub walk-requires-2 : goal.walk-requires-2
walk-requires-2 c =
    let p = c.requires in
    (readable _ _ _ _ _ p.0, p.1, p.2, search rules, omega (arith, c.walk.ensures.long))

pub returns : goal.returns
returns c = judged_stored _ _ _ _ c.requires.0 _ _ _ _ c.if-not-walk.false c.walk.ensures c.walk-2.ensures

pub shape_of-transcript : goal.shape_of-transcript
shape_of-transcript c = (returns c).long
