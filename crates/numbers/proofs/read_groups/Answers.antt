-- `numbers::read_groups` meets its contract: the number at the place goes on behind the groups that were read.
use mathlib.Core.Path.{sym, ◌∙◌}
use Prim.Native.Nat.{◌+◌, ◌*◌, ◌-◌, ◌<◌}
use native.Mathlib.Omega.{arith}
use Rattle.lists.proofs.Tests.{cond_true, cond_false}
use Rattle.shape.specs.Shape.{byte_values}
use Rattle.numbers.specs.Numbers.{group_values}
use Rattle.numbers.proofs.Groups.{Reading, reading_first, reading_fits, reading_long, reading_cut, reading_last, reading_next}
use Rattle.numbers.proofs.read_groups.Goals as goal
use Rattle.numbers.proofs.read_groups.Goals.{After-from-b, Else-b-lt-GROUP_VALUES}

pub loop-groups-init : goal.loop-groups-init
loop-groups-init c = reading_first _ _

pub returns-then-bytes-place : goal.returns-then-bytes-place
returns-then-bytes-place c = reading_cut c.loop-groups.invariant c.if-bytes-place.true

byte : (c : After-from-b) → c.from-b.result < byte_values
byte c = omega (arith, c.type_inv.bytes c.loop-groups.place, c.from-b.ensures)

pub returns-then-groups-b : goal.returns-then-groups-b
returns-then-groups-b c =
    sym (cond_true _ _ _ c.if-groups-b.true) ∙ reading_last c.loop-groups.invariant (omega arith) (omega arith) _ c.from-b.ensures c.if-b-lt-GROUP_VALUES.true

pub overflow_mul-result : goal.overflow_mul-result
overflow_mul-result c = let w = (goal.at.overflow_mul-result c).After-from-b in omega (arith, reading_fits w.loop-groups.invariant _ (byte w))

pub overflow_add-result : goal.overflow_add-result
overflow_add-result c = let w = (goal.at.overflow_add-result c).After-from-b in omega (arith, reading_fits w.loop-groups.invariant _ (byte w))

pub returns-then-b-lt-GROUP_VALUES : goal.returns-then-b-lt-GROUP_VALUES
returns-then-b-lt-GROUP_VALUES c =
    sym (cond_false _ _ _ c.if-groups-b.false) ∙ reading_last c.loop-groups.invariant (omega arith) (omega arith) _ c.from-b.ensures c.if-b-lt-GROUP_VALUES.true

-- the groups read with this one
next : (c : Else-b-lt-GROUP_VALUES) →
    Reading c.args.bytes.now c.args.at (c.loop-groups.value + c.loop-groups.worth * (c.from-b.result - group_values)) (c.loop-groups.worth * group_values) (c.loop-groups.place + 1) (c.loop-groups.groups + 1)
next c =
    reading_next c.loop-groups.invariant (omega arith) (omega arith) _ c.from-b.ensures c.if-b-lt-GROUP_VALUES.false (byte (goal.at.Else-b-lt-GROUP_VALUES c).After-from-b)

pub overflow_mul-value : goal.overflow_mul-value
overflow_mul-value c = omega (arith, reading_fits (next c) 0 (omega arith))

pub overflow_add-value : goal.overflow_add-value
overflow_add-value c = omega (arith, reading_fits (next c) 0 (omega arith))

pub overflow_mul-worth : goal.overflow_mul-worth
overflow_mul-worth c = omega (arith, reading_fits (next c) 1 (omega arith))

pub loop-groups-preserved : goal.loop-groups-preserved
loop-groups-preserved c = next c

pub returns : goal.returns
returns c = reading_long c.loop-groups.invariant c.loop-groups-test.false
