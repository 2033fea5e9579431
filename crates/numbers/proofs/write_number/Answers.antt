-- `numbers::write_number` meets its contract: the numeral of the rest is still to be written, at the place.
use mathlib.Core.Path.{refl}
use mathlib.Core.List.{[]}
use Prim.Native.Nat.{◌-◌}
use native.Mathlib.Omega.{arith}
use Rattle.lists.proofs.Writing.{writing_next, writing_room, writing_end}
use Rattle.numbers.specs.Numbers.{most_groups}
use Rattle.numbers.proofs.Numbers.{numeral_one, numeral_some, numeral_next}
use Rattle.numbers.proofs.write_number.Goals as goal

pub bounds-card-place : goal.bounds-card-place
bounds-card-place c = omega (arith, writing_room c.loop-rest.invariant.1 c.requires.1, numeral_some (most_groups - 1) c.loop-rest.rest)

pub loop-rest-preserved : goal.loop-rest-preserved
loop-rest-preserved c =
    let l = c.loop-rest in
    (omega arith, writing_next l.invariant.1 _ _ (numeral_next (most_groups - 1) l.rest l.invariant.0 c.loop-rest-test.true))

pub bounds-card-place-2 : goal.bounds-card-place-2
bounds-card-place-2 c = omega (arith, writing_room c.loop-rest.invariant.1 c.requires.1, numeral_some (most_groups - 1) c.loop-rest.rest)

pub returns : goal.returns
returns c =
    let l = c.loop-rest in
    writing_end (writing_next l.invariant.1 l.rest [] (numeral_one (most_groups - 1) l.rest c.loop-rest-test.false)) refl
