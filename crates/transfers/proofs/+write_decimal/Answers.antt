-- `transfers::write_decimal` meets its contract: a single digit, or the digits of a tenth and one more. Each call has a smaller number. Assumes nothing.
use native.Mathlib.Omega.{arith}
use Rattle.transfers.proofs.Decimals.{digit_room, digits_room, digits_inside, digit_put, digits_put}
use Rattle.transfers.proofs.+write_decimal.Goals as goal

pub bounds-text-at : goal.bounds-text-at
bounds-text-at t c = omega (arith, digit_room _ c.if-number-lt10.true)

pub returns-then-number-lt10 : goal.returns-then-number-lt10
returns-then-number-lt10 t c = digit_put _ _ _ c.if-number-lt10.true

pub write_decimal-place-requires : goal.write_decimal-place-requires
write_decimal-place-requires t c = omega (arith, digits_room _ c.if-number-lt10.false)

pub bounds-text-place : goal.bounds-text-place
bounds-text-place t c = digits_inside _ _ _ _ _ c.if-number-lt10.false c.write_decimal-place.ensures c.requires

pub overflow_add-result-2 : goal.overflow_add-result-2
overflow_add-result-2 t c = omega (arith, digits_inside _ _ _ _ _ c.if-number-lt10.false c.write_decimal-place.ensures c.requires)

pub returns : goal.returns
returns t c = digits_put _ _ _ _ _ c.if-number-lt10.false c.write_decimal-place.ensures
