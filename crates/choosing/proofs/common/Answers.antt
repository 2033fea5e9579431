-- `choosing::common` meets its contract: no multiple of l before l × j is one of s, and l × s is. Assumes nothing.
use Prim.Native.Nat.{◌-◌, ◌≤◌, ◌<◌}
use native.Mathlib.Nat.{mul-mod_left}
use native.Mathlib.Omega.{arith}
use Rattle.choosing.proofs.Multiples.{NoneBefore, product_fits, none_more, first_common}
use Rattle.choosing.proofs.common.Goals as goal

pub loop-j-init : goal.loop-j-init
loop-j-init c = λ i p m. absurd (omega arith)

pub overflow_mul-l : goal.overflow_mul-l
overflow_mul-l c = let p = c.requires in omega (arith, product_fits _ _ c.loop-j.j p.1 p.3 (omega arith))

pub overflow_mul-result : goal.overflow_mul-result
overflow_mul-result c = let p = c.requires in omega (arith, product_fits _ _ c.loop-j.j p.1 p.3 (omega arith))

pub overflow_mul-result-2 : goal.overflow_mul-result-2
overflow_mul-result-2 c = let p = c.requires in omega (arith, product_fits _ _ c.args.s p.1 p.3 (omega arith))

pub loop-j-preserved : goal.loop-j-preserved
loop-j-preserved c = none_more _ _ _ (omega arith) c.loop-j.invariant

pub returns-then-l-j-eq0 : goal.returns-then-l-j-eq0
returns-then-l-j-eq0 c = first_common _ _ _ c.requires.0 (omega arith) c.if-l-j-eq0.true c.loop-j.invariant

pub returns : goal.returns
returns c = first_common _ _ _ c.requires.0 c.requires.2 (mul-mod_left _ _) (λ i p m. c.loop-j.invariant i p (omega arith))
