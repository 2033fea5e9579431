-- `code::point` meets its contract: the table is the definition's list, whose points are below the modulus. Assumes nothing.
use native.Mathlib.Omega.{arith}
use borrow.Author.Tests.{eq-eqb, ne_eqb}
use Rattle.lists.specs.Digits.{bit}
use Rattle.code.specs.Code.{base_point, point}
use Rattle.code.proofs.Narrow.{narrow_good}
use Rattle.code.proofs.point.Goals as goal

pub overflow_sub-result : goal.overflow_sub-result
unfolding base_point
overflow_sub-result c = omega (arith, narrow_good.high c.args.i c.requires)

pub returns-then-a-i-eq0 : goal.returns-then-a-i-eq0
unfolding point bit base_point
returns-then-a-i-eq0 c = (narrow_good.high c.args.i c.requires, rw (eq-eqb _ _ c.if-a-i-eq0.true))

pub returns-else-a-i-eq0 : goal.returns-else-a-i-eq0
unfolding point bit base_point
returns-else-a-i-eq0 c = (omega (arith, narrow_good.low c.args.i c.requires), rw (ne_eqb _ _ c.if-a-i-eq0.false))
