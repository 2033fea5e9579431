-- `plan::write_lists` meets its contract: as many places as there are nodes at most are enough for the listed ones. Assumes nothing.
use mathlib.Core.Path.{sym, ap}
use Prim.Native.Nat.{◌+◌}
use native.Mathlib.Omega.{arith}
use lib.ListN.{drop, replicate}
use Rattle.shape.specs.Shape.{most_nodes}
use Rattle.numbers.specs.Numbers.{read_numbers}
use Rattle.transfers.specs.Plan.{with_lists}
use Rattle.transfers.proofs.Room.{shape_passed}
use Rattle.plan.proofs.Exits.{puts_as, front_length}
use Rattle.transfers.proofs.Printed.{front_accepted}
use Rattle.plan.proofs.write_lists.Goals as goal

pub overflow_add-count : goal.overflow_add-count
overflow_add-count c = omega (arith, front_accepted _ _ c.requires.0)

pub overflow_add-count-2 : goal.overflow_add-count-2
overflow_add-count-2 c = omega (arith, front_accepted _ _ c.requires.0)

pub slice_bounds-nodes-end : goal.slice_bounds-nodes-end
slice_bounds-nodes-end c = (front_accepted _ _ c.requires.0).few

pub slice_bounds-write_listed-end : goal.slice_bounds-write_listed-end
slice_bounds-write_listed-end c = front_length _ _ (front_accepted _ _ c.requires.0).few

pub write_listed-requires : goal.write_listed-requires
write_listed-requires c =
    let f = front_accepted _ _ c.requires.0 in
    (shape_passed _ _ c.requires.0, rw (← (front_length _ _ f.few)) (omega arith), omega (arith, f.few), c.requires.1)

pub returns : goal.returns
returns c =
    let a = c.args in
    let long = front_length (a.h + (a.s.k + 1)) (replicate most_nodes 0) (front_accepted _ _ c.requires.0).few in
    puts_as (ap (λ n. with_lists a.s a.h (read_numbers n (drop a.at a.input.now))) (sym long)) c.write_listed.ensures
