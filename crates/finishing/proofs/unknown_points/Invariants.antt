-- `finishing::unknown_points` meets its contract. Assumes nothing.
use Rattle.std.proofs.Common.{◌≡◌, ℕ, ◌<◌, get_or}
use Rattle.lists.specs.Lists.{element}
use Rattle.code.specs.Code.{narrow, more_points}
use Rattle.finishing.proofs.unknown_points.Given as goal

abbrev pub invariant-loop-j : goal.invariant-loop-j
invariant-loop-j l = (k : ℕ) → k < l.j → get_or l.point-items k 0 ≡ get_or (more_points narrow l.n l.a l.i) (element l.unknown k) 0
