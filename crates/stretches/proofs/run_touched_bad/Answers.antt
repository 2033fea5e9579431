-- `stretches::run_touched_bad` meets its contract. Assumes nothing.
use mathlib.Core.Path.{sym, ◌∙◌}
use mathlib.Core.Bool.{true≢false, false≢true}
use native.Mathlib.Omega.{arith}
use Rattle.code.specs.Archive.{symbol}
use Rattle.stretches.proofs.Judging.{shape_small, wanted_bounded}
use Rattle.stretches.proofs.Touching.{run_touched, run_untouched}
use Rattle.stretches.proofs.run_touched_bad.Goals as goal

pub size-each-requires : goal.size-each-requires
size-each-requires c = c.requires.0

pub overflow_mul-most : goal.overflow_mul-most
overflow_mul-most c = rw c.size-each.ensures (omega (arith, (shape_small _ c.requires.0).bytes))

pub next_wanted-requires : goal.next_wanted-requires
next_wanted-requires c =
    let p = c.requires in
    let w = shape_small _ p.0 in
    rw c.size-each.ensures (p.1, omega (arith, w.bytes), omega (arith, p.2.on, p.2.upto), omega (arith, w.places), omega arith)

pub returns-then-most-next_wanted : goal.returns-then-most-next_wanted
returns-then-most-next_wanted c =
    let p = c.requires in
    let next = rw c.size-each.ensures at c.next_wanted.ensures in
    record {
      low = λ _ j q _ low high t. absurd (true≢false (sym t ∙ run_untouched _ _ _ _ _ p.2 (wanted_bounded _ _ p.1) _ q next (rw c.size-each.ensures at c.if-most-next_wanted.true) low high));
      high = λ y. absurd (false≢true y);
    }

pub run_bad-requires : goal.run_bad-requires
run_bad-requires c =
    let p = c.requires in
    rw c.size-each.ensures (omega (arith, (shape_small _ p.0).bytes), omega (arith, p.2.on), p.2.upto, p.3)

pub returns : goal.returns
unfolding symbol
returns c = let p = c.requires in
    let next = rw c.size-each.ensures at c.next_wanted.ensures in
    let r = rw c.size-each.ensures at c.run_bad.ensures in
    record {
      low = λ y j q h low high _. r.low y j q h low high;
      high = λ y all. r.high y (λ j q h low high. all j q h low high (run_touched _ _ _ _ _ p.2 _ q next (rw c.size-each.ensures at c.if-most-next_wanted.false) low high));
    }
