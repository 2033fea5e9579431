-- `classes::mixed` meets its contract: by the digit. Assumes nothing.
use mathlib.Core.Path.{sym}
use borrow.Author.Tests.{eq-eqb, ne_eqb}
use lib.Bits.{xor_zero_r}
use Rattle.lists.specs.Digits.{bit}
use Rattle.classes.proofs.mixed.Goals as goal

pub returns-then-a-i-eq1 : goal.returns-then-a-i-eq1
unfolding bit
returns-then-a-i-eq1 c = rw (eq-eqb _ _ c.if-a-i-eq1.true)

pub returns-else-a-i-eq1 : goal.returns-else-a-i-eq1
unfolding bit
returns-else-a-i-eq1 c = rw (ne_eqb _ _ c.if-a-i-eq1.false) (sym (xor_zero_r _))
