-- `patterns::lengthen` meets its contract. Assumes nothing.
use Rattle.std.proofs.Common.{◌≡◌, ◌+◌, ◌*◌, ◌<◌, ◌^◌, ◌∙◌, ap₂, get_or, get_or-set_other, arith}
use Rattle.lists.proofs.Flips.{bit_lt}
use Rattle.lists.proofs.Stores.{stored_more}
use Rattle.shape.specs.Shape.{most_nodes}
use Rattle.patterns.specs.Patterns.{lengthened}
use Rattle.patterns.proofs.lengthen.Goals as goal
use Rattle.patterns.proofs.lengthen.Goals.{In-loop-t}

in_run : (c : In-loop-t) → c.loop-t.t < c.args.run
in_run c = omega arith

-- a pattern that is still to be lengthened
there : (c : In-loop-t) → get_or c.loop-t.pattern-items c.loop-t.t 0 ≡ get_or c.args.row.now c.loop-t.t 0
there c = c.loop-t.invariant.left c.loop-t.t (omega arith) (in_run c)

low : (c : In-loop-t) → get_or c.loop-t.pattern-items c.loop-t.t 0 < 2 ^ most_nodes
low c = rw (there c) (c.requires.4 c.loop-t.t (in_run c))

pub overflow_mul-pattern : goal.overflow_mul-pattern
overflow_mul-pattern c = omega (arith, low (goal.at.overflow_mul-pattern c).In-loop-t)

pub overflow_add-pattern : goal.overflow_add-pattern
overflow_add-pattern c = omega (arith, low (goal.at.overflow_add-pattern c).In-loop-t, c.bit.ensures, bit_lt c.args.node (c.args.a + c.loop-t.t))

pub loop-t-preserved : goal.loop-t-preserved
unfolding lengthened
loop-t-preserved c =
    let l = c.loop-t in
    let s = c.args in
    record {
      passed =
          stored_more (λ k x. x ≡ lengthened s.a s.node s.row.now k) l.pattern-items l.t _ 0 (omega arith) l.invariant.passed
          (ap₂ (λ x y. 2 * x + y) (there (goal.at.loop-t-preserved c).In-loop-t) c.bit.ensures);
      left = λ k h r. get_or-set_other l.pattern-items l.t k _ 0 (λ e. omega arith) ∙ l.invariant.left k (omega arith) r;
    }
