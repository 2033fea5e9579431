-- `code::points_at` meets its contract: the first n entries of the array are lent. Assumes nothing.
use Rattle.std.proofs.Common.{◌≡◌, ◌∙◌, length, length-append, length-drop, length-take, ℕ, arith}
use lib.Seq.{take_at}
use Rattle.lists.proofs.Tables.{is_tabulate}
use Rattle.code.specs.Code.{narrow, point, points}
use Rattle.code.proofs.points_at.Goals as goal

pub returns : goal.returns
unfolding points
returns c =
    let l = c.loop-i in
    let n : length l.x-items ≡ c.args.n = omega (arith, length-take {A = ℕ}) in
    (simp (length-append, length-drop) (omega arith), take_at _ _ _ n ∙ is_tabulate l.x-items c.args.n (point narrow c.args.a) 0 n (λ i h. l.invariant i (omega arith)))
