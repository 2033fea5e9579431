-- `choosing::common` meets its contract: no multiple of l before l × j is one of s, and l × s is. Assumes nothing.
use Prim.Native.Nat.{◌≤◌, ◌<◌}
use Rattle.choosing.proofs.Multiples.{NoneBefore}
use Rattle.choosing.proofs.common.Given as goal

abbrev pub invariant-loop-j : goal.invariant-loop-j
invariant-loop-j l = NoneBefore l.l l.s l.j
