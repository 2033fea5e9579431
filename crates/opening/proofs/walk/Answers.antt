-- `opening::walk` meets its contract. Assumes nothing.
use mathlib.Core.Path.{◌∙◌}
use native.Mathlib.Omega.{arith}
use Rattle.opening.proofs.Places.{listed_misfit, both_walked}
use Rattle.opening.proofs.walk.Goals as goal

pub open_listed-requires : goal.open_listed-requires
open_listed-requires c = (c.requires.0, c.requires.3, c.requires.4)

pub shape_of-transcript-then-not-open_listed : goal.shape_of-transcript-then-not-open_listed
shape_of-transcript-then-not-open_listed c = c.open_listed.ensures.long

pub returns-then-not-open_listed : goal.returns-then-not-open_listed
returns-then-not-open_listed c = listed_misfit _ _ _ c.requires.0 _ _ _ _ _ c.if-not-open_listed.true c.open_listed.ensures

pub open_runs-requires : goal.open_runs-requires
open_runs-requires c =
    let p = c.requires in
    (p.0, p.1, p.2, p.3, omega (arith, p.4, c.open_listed.ensures.long))

pub shape_of-transcript : goal.shape_of-transcript
shape_of-transcript c = c.open_runs.ensures.long ∙ c.open_listed.ensures.long

pub returns : goal.returns
returns c = both_walked _ _ _ c.requires.0 _ _ _ _ _ _ _ c.if-not-open_listed.false c.open_listed.ensures c.open_runs.ensures
