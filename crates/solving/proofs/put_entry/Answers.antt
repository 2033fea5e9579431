-- `solving::put_entry` meets its contract. Assumes nothing.
use mathlib.Core.Path.{ap, ◌∙◌}
use Prim.Native.Nat.{◌%◌}
use native.Mathlib.Omega.{arith}
use Rattle.code.specs.Code.{narrow}
use Rattle.rows.specs.Rows.{remainder}
use Rattle.solving.specs.Solving.{row_sum}
use Rattle.solving.proofs.put_entry.Goals as goal

pub overflow_mul-i : goal.overflow_mul-i
overflow_mul-i c = omega (arith, c.requires.0.room)

pub returns : goal.returns
unfolding row_sum remainder
returns c =
    let w = c.spread.ensures in
    record { long = w.long; hit = λ t h. w.hit t h ∙ ap (λ z. z % narrow.modulus) (c.sum_row-sums.ensures.each_sum t h); rest = w.rest }
