-- `stretches::list_columns` meets its contract. Assumes nothing.
use mathlib.Core.Path.{◌≡◌, sym, ◌∙◌}
use native.Mathlib.Omega.{arith}
use Rattle.shape.specs.Shape.{size}
use Rattle.stretches.proofs.Judging.{shape_small, bounded_weak, wanted_bounded}
use Rattle.stretches.proofs.Touching.{run_touched, run_untouched, columns_none, columns_skip, columns_more, columns_end}
use borrow.Author.Rules.{rules}
use Rattle.stretches.proofs.list_columns.Goals as goal
use Rattle.stretches.proofs.list_columns.Goals.{After-size-each}

pub size-each-requires : goal.size-each-requires
size-each-requires c = c.requires.0

pub overflow_mul-most : goal.overflow_mul-most
overflow_mul-most c = rw c.size-each.ensures (omega (arith, (shape_small _ c.requires.0).bytes))

pub loop-at-init : goal.loop-at-init
loop-at-init c = (search rules, search rules, search rules, λ s e. columns_none _ _ _)

pub next_cut-end-requires : goal.next_cut-end-requires
next_cut-end-requires c =
    let p = c.requires in
    (bounded_weak _ _ _ (omega (arith, (shape_small _ p.0).bytes)) p.1, c.loop-at-test.true)

pub next_wanted-requires : goal.next_wanted-requires
next_wanted-requires c =
    let p = c.requires in
    let w = shape_small _ p.0 in
    rw c.size-each.ensures (p.1, omega (arith, w.bytes), rw c.size-each.ensures at c.loop-at-test.true, omega (arith, w.places), omega arith)

pub loop-at-smaller-then-most-next_wanted : goal.loop-at-smaller-then-most-next_wanted
loop-at-smaller-then-most-next_wanted c = let n = c.next_cut-end.ensures in omega (arith, n.on, n.upto)

pub loop-at-preserved-then-most-next_wanted : goal.loop-at-preserved-then-most-next_wanted
loop-at-preserved-then-most-next_wanted c =
    let l = c.loop-at in
    let p = c.requires in
    let n = c.next_cut-end.ensures in (
      n.upto,
      omega (arith, l.invariant.1, n.on),
      l.invariant.2,
      λ s e.
          columns_skip s _ _ _ _ _ n.on (l.invariant.3 s e) (λ q low high.
          run_untouched s _ _ _ _ (rw e at n) (wanted_bounded _ _ (rw (sym e ∙ c.size-each.ensures) p.1)) _ q (rw e at c.next_wanted.ensures) (rw e at c.if-most-next_wanted.true) low high),
    )

pub overflow_sub-end : goal.overflow_sub-end
overflow_sub-end c = let n = c.next_cut-end.ensures in omega (arith, n.on)

pub number_columns-requires : goal.number_columns-requires
number_columns-requires c =
    let l = c.loop-at in
    let p = c.requires in
    let n = c.next_cut-end.ensures in
    (omega (arith, n.on, n.upto, c.size-each.ensures, (shape_small _ p.0).places), omega (arith, n.on, n.upto, l.invariant.1, l.invariant.2, p.2, c.size-each.ensures))

pub loop-at-preserved : goal.loop-at-preserved
loop-at-preserved c =
    let l = c.loop-at in
    let z = (goal.at.loop-at-preserved c).After-size-each in
    let n = c.next_cut-end.ensures in
    let put = c.number_columns.ensures in (
      n.upto,
      omega (arith, l.invariant.1, n.on),
      put.long ∙ l.invariant.2,
      λ s e.
          columns_more s _ _ _ _ _ n.on (l.invariant.3 s e) _ (λ q low high.
          run_touched s _ _ _ _ (rw e at n) _ q (rw e at c.next_wanted.ensures) (rw e at c.if-most-next_wanted.false) low high) put,
    )

pub returns : goal.returns
returns c =
    let l = c.loop-at in
    let e : l.at ≡ size c.args.s = omega (arith, l.invariant.0, c.loop-at-test.false, c.size-each.ensures) in
    columns_end c.args.s _ _ _ _ (rw e at (l.invariant.3 c.args.s c.size-each.ensures)) (l.invariant.2 ∙ c.requires.2) c.clear.ensures
