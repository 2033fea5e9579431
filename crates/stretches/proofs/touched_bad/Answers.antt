-- `stretches::touched_bad` meets its contract. Assumes nothing.
use mathlib.Core.Path.{◌≡◌, sym}
use mathlib.Core.Bool.{true}
use Prim.Native.Nat.{ℕ, ◌≤◌, ◌<◌}
use native.Mathlib.Omega.{arith}
use Rattle.code.specs.Code.{narrow}
use Rattle.code.specs.Archive.{symbol}
use Rattle.lists.proofs.Tests.{below_or_not}
use mathlib.Core.Logic.{◌⊎◌, inl, inr}
use Rattle.stretches.specs.Stretches.{touched}
use Rattle.stretches.proofs.Judging.{shape_small, bounded_weak, touched_low, touched_high}
use borrow.Author.Rules.{rules}
use Rattle.stretches.proofs.touched_bad.Goals as goal

pub size-each-requires : goal.size-each-requires
size-each-requires c = c.requires.0

pub loop-at-init : goal.loop-at-init
loop-at-init c = (search rules, λ j p _ h. absurd (omega arith))

pub next_cut-end-requires : goal.next_cut-end-requires
next_cut-end-requires c =
    let p = c.requires in
    (bounded_weak _ _ _ (omega (arith, (shape_small _ p.0).bytes)) p.1, c.loop-at-test.true)

pub run_touched_bad-requires : goal.run_touched_bad-requires
run_touched_bad-requires c =
    let p = c.requires in
    (p.0, p.1, rw c.size-each.ensures at c.next_cut-end.ensures, p.2)

pub returns-then-run_touched_bad : goal.returns-then-run_touched_bad
returns-then-run_touched_bad c =
    sym (touched_high narrow _ _ _ (λ low. c.run_touched_bad.ensures.high c.if-run_touched_bad.true (λ j p h _ high t.
    low j p h (omega (arith, rw c.size-each.ensures at c.next_cut-end.ensures.upto)) t)))

pub loop-at-smaller : goal.loop-at-smaller
loop-at-smaller c = let n = c.next_cut-end.ensures in omega (arith, n.on, n.upto)

pub loop-at-preserved : goal.loop-at-preserved
loop-at-preserved c = (c.next_cut-end.ensures.upto, λ j p h l t. go j p h l t (below_or_not p c.loop-at.at))
  where
    go : (j p : ℕ) → j < c.args.s.k → p < c.next_cut-end.result → touched c.args.s c.args.stretches.now p ≡ true
        → (p < c.loop-at.at) ⊎ (c.loop-at.at ≤ p) → symbol c.args.s c.args.symbols.now j p < narrow.modulus
    go j p h l t (inl k) = c.loop-at.invariant.1 j p h k t
    go j p h l t (inr k) = c.run_touched_bad.ensures.low c.if-run_touched_bad.false j p h k l t

pub returns : goal.returns
returns c =
    let l = c.loop-at in
    sym (touched_low narrow _ _ _ (λ j p h m t. l.invariant.1 j p h (omega (arith, l.invariant.0, c.loop-at-test.false, c.size-each.ensures)) t))
