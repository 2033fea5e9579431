-- `stretches::stretches_bad` meets its contract. Assumes nothing.
use mathlib.Core.Path.{sym}
use borrow.Author.Tests.{ltb-false}
use Rattle.lists.proofs.Tests.{neither}
use Rattle.stretches.specs.Refusals.{stretches_bad}
use Rattle.stretches.proofs.stretches_bad.Goals as goal

pub returns-then-numbers : goal.returns-then-numbers
unfolding stretches_bad
returns-then-numbers c = simp c.if-numbers.true

pub room_wrong-requires : goal.room_wrong-requires
room_wrong-requires c = ltb-false _ _ (neither _ _ c.if-numbers.false).0

pub returns : goal.returns
unfolding stretches_bad
returns c = simp (c.if-numbers.false, sym c.room_wrong.ensures)
