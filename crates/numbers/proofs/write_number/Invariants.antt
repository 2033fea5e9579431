-- `numbers::write_number` meets its contract: the numeral of the rest is still to be written, at the place.
use Prim.Native.Nat.{◌^◌, ◌<◌}
use Rattle.lists.proofs.Writing.{Writing}
use Rattle.numbers.specs.Numbers.{most_groups, group_values, numeral}
use Rattle.numbers.proofs.write_number.Given as goal

abbrev pub invariant-loop-rest : goal.invariant-loop-rest
invariant-loop-rest l = (l.rest < group_values ^ most_groups) × Writing (numeral most_groups l.number) l.initial.card l.at (numeral most_groups l.rest) l.card l.place

abbrev pub decreases-loop-rest : goal.decreases-loop-rest
decreases-loop-rest l = l.rest
