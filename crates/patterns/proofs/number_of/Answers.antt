-- `patterns::number_of` meets its contract. Assumes nothing.
use mathlib.Core.Path.{◌≡◌, subst}
use Prim.Native.Nat.{◌+◌, ◌-◌, ◌<◌, ◌^◌}
use native.Mathlib.Omega.{arith}
use Rattle.shape.specs.Shape.{most_nodes}
use Rattle.patterns.specs.Patterns.{Making}
use Rattle.patterns.proofs.Patterns.{making_none, making_low, making_end, making_fixed, making_free}
use Rattle.patterns.proofs.number_of.Goals as goal
use Rattle.patterns.proofs.number_of.Goals.{In-loop-i}

-- the bits made are those of a number below 2^n
low : (c : In-loop-i) → c.loop-i.out < 2 ^ most_nodes
low c = making_low _ _ _ c.loop-i.i _ _ c.requires c.loop-i.invariant

pub loop-i-init : goal.loop-i-init
loop-i-init c = making_none _ _ _

pub overflow_mul-out : goal.overflow_mul-out
overflow_mul-out c = omega (arith, low (goal.at.overflow_mul-out c).In-loop-i)

pub loop-i-preserved-then-marked-i : goal.loop-i-preserved-then-marked-i
loop-i-preserved-then-marked-i c =
    let l = c.loop-i in
    let e : l.i ≡ l.i - 1 + 1 = omega arith in
    making_fixed _ _ _ (l.i - 1) _ _ (subst (λ k. Making c.args.n c.args.marked c.args.pattern k l.rest l.out) e l.invariant) c.if-marked-i.true

pub overflow_mul-out-in-loop-i : goal.overflow_mul-out-in-loop-i
overflow_mul-out-in-loop-i c = omega (arith, low (goal.at.overflow_mul-out-in-loop-i c).In-loop-i)

pub overflow_add-out : goal.overflow_add-out
overflow_add-out c = omega (arith, low (goal.at.overflow_add-out c).In-loop-i)

pub loop-i-preserved : goal.loop-i-preserved
loop-i-preserved c =
    let l = c.loop-i in
    let e : l.i ≡ l.i - 1 + 1 = omega arith in
    making_free _ _ _ (l.i - 1) _ _ (subst (λ k. Making c.args.n c.args.marked c.args.pattern k l.rest l.out) e l.invariant) c.if-marked-i.false

pub returns : goal.returns
returns c =
    let l = c.loop-i in
    let s = c.args in
    let e : l.i ≡ 0 = omega arith in
    making_end _ _ _ _ _ (subst (λ k. Making s.n s.marked s.pattern k l.rest l.out) e l.invariant)
