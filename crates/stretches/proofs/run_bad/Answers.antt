-- `stretches::run_bad` meets its contract. Assumes nothing.
use mathlib.Core.Bool.{true≢false, false≢true}
use mathlib.Core.Path.{◌≡◌, sym, ◌∙◌}
use native.Mathlib.Decide.{ℕ_discrete}
use Rattle.filling.proofs.Filling.{row_room}
use Rattle.stretches.proofs.Judging.{part_low, low_part}
use Prim.Native.Nat.{ℕ, ◌+◌, ◌-◌, ◌*◌, ◌≤◌, ◌<◌}
use native.Mathlib.Omega.{arith}
use lib.ListN.{get_or}
use Rattle.code.specs.Code.{narrow}
use borrow.Author.Rules.{rules}
use Rattle.stretches.proofs.run_bad.Goals as goal
use Rattle.stretches.proofs.run_bad.Goals.{In-loop-j}

-- the runs lie among the symbols
within : (c : In-loop-j) → let a = c.args in c.loop-j.j * a.each + a.end ≤ a.k * a.each
within c = let p = c.requires in omega (arith, row_room _ _ c.loop-j.j 0 _ c.loop-j-test.true (let z : 0 + c.args.end ≤ c.args.each = omega (arith, p.2) in z))

pub loop-j-init : goal.loop-j-init
loop-j-init c = (search rules, λ i p h. absurd (omega arith))

pub overflow_mul-from : goal.overflow_mul-from
overflow_mul-from c = omega (arith, within c, c.requires.0)

pub overflow_add-from : goal.overflow_add-from
overflow_add-from c = omega (arith, within c, c.requires.0, c.requires.1)

pub overflow_mul-to : goal.overflow_mul-to
overflow_mul-to c = omega (arith, within c, c.requires.0)

pub overflow_add-to : goal.overflow_add-to
overflow_add-to c = omega (arith, within c, c.requires.0)

pub offset_bounds-symbols-from : goal.offset_bounds-symbols-from
offset_bounds-symbols-from c = omega (arith, within c, c.requires.0, c.requires.3)

pub slice_bounds-symbol_bad-count : goal.slice_bounds-symbol_bad-count
slice_bounds-symbol_bad-count c = omega (arith, c.requires.1)

pub slice_bounds-symbol_bad-start : goal.slice_bounds-symbol_bad-start
slice_bounds-symbol_bad-start c = omega (arith, c.requires.1)

pub slice_bounds-symbol_bad-end : goal.slice_bounds-symbol_bad-end
slice_bounds-symbol_bad-end c = omega (arith, within c, c.requires.3)

pub returns-then-symbol_bad : goal.returns-then-symbol_bad
returns-then-symbol_bad c =
    let l = c.loop-j in
    let a = c.args in
    record {
      low = λ z. absurd (true≢false z);
      high = λ _ all. true≢false (sym c.if-symbol_bad.true ∙ c.symbol_bad.ensures
          ∙ low_part narrow.modulus a.symbols.now (l.j * a.each + a.at) (l.j * a.each + a.end) (omega (arith, c.requires.1)) (omega (arith, within (goal.at.returns-then-symbol_bad c).In-loop-j, c.requires.3))
          (λ e low high. let z : l.j * a.each + (e - l.j * a.each) ≡ e = omega arith in rw z at (all l.j (e - l.j * a.each) c.loop-j-test.true (omega arith) (omega arith))));
    }

pub loop-j-preserved : goal.loop-j-preserved
loop-j-preserved c =
    let l = c.loop-j in
    let a = c.args in
    (search rules, λ i p h low high. go i p h low high (ℕ_discrete i l.j))
  where
    go : (i p : ℕ) → i < c.loop-j.j + 1 → c.args.at ≤ p → p < c.args.end
        → Dec (i ≡ c.loop-j.j)
        → get_or c.args.symbols.now (i * c.args.each + p) 0 < narrow.modulus
    go i p h low high (no d) = c.loop-j.invariant.1 i p (omega (arith, d)) low high
    go i p h low high (yes d) =
        rw d (part_low narrow.modulus c.args.symbols.now (c.loop-j.j * c.args.each + c.args.at) (c.loop-j.j * c.args.each + c.args.end) (omega (arith, c.requires.1)) (omega (arith, within (goal.at.loop-j-preserved c).In-loop-j, c.requires.3)) (sym c.symbol_bad.ensures ∙ c.if-symbol_bad.false) (c.loop-j.j * c.args.each + p) (omega arith) (omega arith))

pub returns : goal.returns
returns c = record {
  low = λ _ j p h low high. c.loop-j.invariant.1 j p (omega (arith, c.loop-j.invariant.0, c.loop-j-test.false)) low high;
  high = λ z. absurd (false≢true z);
}
