-- `opening::open_listed` meets its contract. Assumes nothing.
use Rattle.std.proofs.Common.{true}
use Rattle.opening.specs.Steps.{opened, Walked, OneOf, OfListed}
use Rattle.opening.proofs.open_listed.Given as goal

abbrev pub invariant-loop-j : goal.invariant-loop-j
invariant-loop-j l = Walked (opened l.s l.list l.symbols) l.len l.room (OneOf l.j (OfListed l.s l.list)) l.initial.transcript l.transcript true
