-- `numbers::read_number` meets its contract: one group or two, and else as `read_groups` reads.
use mathlib.Core.Path.{refl, sym}
use Prim.Native.Nat.{◌+◌, ◌*◌, ◌/◌, ◌≤◌, ◌<◌}
use native.Mathlib.Nat.{mul-le-mul}
use native.Mathlib.Omega.{arith}
use Rattle.shape.specs.Shape.{byte_values}
use Rattle.numbers.specs.Numbers.{most_groups, group_values}
use Rattle.numbers.proofs.Groups.{at_cut, read_two}
use Rattle.numbers.proofs.read_number.Goals as goal
use Rattle.numbers.proofs.read_number.Goals.{After-from-b, Then-high-lt-GROUP_VALUES}

pub returns-then-bytes-at : goal.returns-then-bytes-at
returns-then-bytes-at c = sym (at_cut most_groups _ _ c.if-bytes-at.true)

byte : (c : After-from-b) → c.from-b.result < byte_values
byte c = omega (arith, c.type_inv.bytes c.args.at, c.from-b.ensures)

pub overflow_mul-high : goal.overflow_mul-high
overflow_mul-high c =
    let w = (goal.at.overflow_mul-high c).After-from-b in
    let at = w.args.at in
    let a : w.from-b.result / group_values ≤ 1 = omega (arith, byte w) in
    let b : c.from.result ≤ byte_values = omega (arith, c.type_inv.bytes (at + 1), c.from.ensures) in
    omega (arith, mul-le-mul a b)

high_small : (c : Then-high-lt-GROUP_VALUES) → c.from-b.result / group_values * c.from.result < group_values
high_small c = c.if-high-lt-GROUP_VALUES.true

pub returns-then-high-lt-GROUP_VALUES : goal.returns-then-high-lt-GROUP_VALUES
returns-then-high-lt-GROUP_VALUES c =
    let w = (goal.at.returns-then-high-lt-GROUP_VALUES c).After-from-b in
    read_two _ _ _ _ _ _ (omega arith) w.from-b.ensures c.from.ensures (byte w) refl refl (omega arith) (high_small c)

pub overflow_mul-result : goal.overflow_mul-result
overflow_mul-result c = omega (arith, high_small c)

pub overflow_add-result : goal.overflow_add-result
overflow_add-result c = omega (arith, high_small c)
