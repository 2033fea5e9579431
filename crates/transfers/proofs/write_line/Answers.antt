-- `transfers::write_line` meets its contract: the numbers from number i on are still to be written, at the place. Assumes nothing.
use Prim.Native.Nat.{◌<◌}
use native.Mathlib.Omega.{arith}
use lib.ListN.{length}
use Rattle.transfers.proofs.Lines.{line_start, line_done, number_room, ending_inside, line_step}
use Rattle.transfers.proofs.write_line.Goals as goal
use Rattle.transfers.proofs.write_line.Goals.{After-ending}

pub loop-i-init : goal.loop-i-init
loop-i-init c = line_start _ _ _

pub write_decimal-place-requires : goal.write_decimal-place-requires
write_decimal-place-requires c =
    let l = c.loop-i in
    number_room _ _ _ l.i _ _ l.invariant (omega arith) c.requires

-- the place behind the number
inside : (c : After-ending) → c.write_decimal-place.result < length c.write_decimal-place.new.text
inside c =
    ending_inside _ _ _ c.loop-i.i _ _ c.loop-i.invariant (omega arith) _ _ c.write_decimal-place.ensures c.requires

pub bounds-text-place : goal.bounds-text-place
bounds-text-place c = inside c

pub overflow_add-place : goal.overflow_add-place
overflow_add-place c = omega (arith, inside c)

pub loop-i-preserved : goal.loop-i-preserved
loop-i-preserved c =
    let l = c.loop-i in
    line_step _ _ _ l.i _ _ l.invariant (omega arith) _ _ c.write_decimal-place.ensures _ c.ending.ensures

pub shape_of-text : goal.shape_of-text
shape_of-text c = c.loop-i.invariant.long

pub returns : goal.returns
returns c = line_done _ _ _ _ _ _ c.loop-i.invariant c.loop-i-test.false
