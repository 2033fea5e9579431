-- `code::points_at` meets its contract: the first n entries of the array are lent. Assumes nothing.
use Rattle.std.proofs.Common.{◌≡◌, ℕ, ◌<◌, get_or}
use Rattle.code.specs.Code.{narrow, point}
use Rattle.code.proofs.points_at.Given as goal

abbrev pub invariant-loop-i : goal.invariant-loop-i
invariant-loop-i l = (k : ℕ) → k < l.i → get_or l.x-items k 0 ≡ point narrow l.a k
