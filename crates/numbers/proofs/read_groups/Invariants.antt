-- `numbers::read_groups` meets its contract: the number at the place goes on behind the groups that were read.
use Rattle.numbers.proofs.Groups.{Reading}
use Rattle.numbers.proofs.read_groups.Given as goal

abbrev pub invariant-loop-groups : goal.invariant-loop-groups
invariant-loop-groups l = Reading l.bytes l.at l.value l.worth l.place l.groups
