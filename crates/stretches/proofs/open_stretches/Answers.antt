-- `stretches::open_stretches` meets its contract. Assumes nothing.
use Prim.Native.Nat.{◌*◌}
use native.Mathlib.Nat.{mul-le-mul_left}
use Rattle.stretches.proofs.Touching.{columns_few, columns_length}
use mathlib.Core.Path.{◌≡◌, refl, sym, ap, ◌∙◌}
use mathlib.Core.Bool.{false}
use native.Mathlib.Omega.{arith}
use borrow.Author.Tests.{not-true, not-false}
use lib.ListN.{length}
use Rattle.shape.specs.Refusals.{answer_number}
use Rattle.shape.proofs.Answers.{number_positive, handed_on}
use Rattle.code.specs.Code.{narrow}
use Rattle.stretches.specs.Stretches.{symbols_read}
use Rattle.stretches.specs.Refusals.{touched_bad, stretches_refusal}
use Rattle.stretches.proofs.Judging.{shape_small}
use Rattle.stretches.proofs.Promised.{Sized, sizes_accepted, sizes_turned, sized_legible, refused_five, refused_seven, refused_none, opens_refused, opens_done}
use Rattle.stretches.proofs.open_stretches.Goals as goal
use Rattle.stretches.proofs.open_stretches.Goals.{Else-touched_bad, In_ok-judge_sizes}

-- the judging found no cause
sized : (c : In_ok-judge_sizes) →
    let a = c.args in
    Sized a.s a.list.now (length a.symbols.now) a.len a.stretches.now (length a.bytes.now) (length a.columns.now)
sized c = sizes_accepted _ _ _ _ _ _ _ (sym c.judge_sizes.ensures ∙ ap answer_number c.in_ok-judge_sizes.was)

-- what was found of the touched columns
low : (c : Else-touched_bad) → let a = c.args in touched_bad narrow a.s a.symbols.now a.stretches.now ≡ false
low c = sym c.touched_bad.ensures ∙ c.if-touched_bad.false

pub touched_bad-requires : goal.touched_bad-requires
touched_bad-requires c = let w = sized c in (w.shape, w.bounded, w.long)

pub returns-then-touched_bad : goal.returns-then-touched_bad
returns-then-touched_bad c = opens_refused _ _ _ _ _ _ _ _ (refused_five _ _ _ _ _ _ _ (sized (goal.at.returns-then-touched_bad c).In_ok-judge_sizes) (sym c.touched_bad.ensures ∙ c.if-touched_bad.true)) _ refl

pub open_wanted-requires : goal.open_wanted-requires
open_wanted-requires c = let w = sized (goal.at.open_wanted-requires c).In_ok-judge_sizes in (sized_legible _ _ _ _ _ _ _ w (low (goal.at.open_wanted-requires c).Else-touched_bad), w.whole)

pub shape_of-bytes-then-not-open_wanted : goal.shape_of-bytes-then-not-open_wanted
shape_of-bytes-then-not-open_wanted c = c.open_wanted.ensures.long

pub returns-then-not-open_wanted : goal.returns-then-not-open_wanted
returns-then-not-open_wanted c =
    let o = c.open_wanted in
    let off = c.if-not-open_wanted.true in
    opens_refused _ _ _ _ _ _ _ _ (refused_seven _ _ _ _ _ _ _ (sized (goal.at.returns-then-not-open_wanted c).In_ok-judge_sizes) (low (goal.at.returns-then-not-open_wanted c).Else-touched_bad) (not-false _ (sym o.ensures.judged ∙ off))) _ (o.ensures.kept off)

pub list_columns-count-requires : goal.list_columns-count-requires
list_columns-count-requires c = let w = sized (goal.at.list_columns-count-requires c).In_ok-judge_sizes in (w.shape, w.bounded, w.columns)

pub overflow_mul-result : goal.overflow_mul-result
overflow_mul-result c =
    let w = sized (goal.at.overflow_mul-result c).In_ok-judge_sizes in
    let a = c.args in
    omega (arith, (shape_small _ w.shape).bytes, mul-le-mul_left a.s.k (columns_few a.s a.stretches.now), ap (λ z. a.s.k * z) c.list_columns-count.ensures.1)

pub returns-in_err-judge_sizes : goal.returns-in_err-judge_sizes
unfolding stretches_refusal
returns-in_err-judge_sizes c = let e = ap answer_number (sym c.in_err-judge_sizes.was) ∙ c.judge_sizes.ensures in
    rw (handed_on _ c.from_residual.ensures.1) (opens_refused _ _ _ _ _ _ _ _ (e ∙ sym (sizes_turned _ _ _ _ _ _ _ _ (λ z. omega (arith, number_positive c.in_err-judge_sizes.field-0.0)))) _ refl)

pub shape_of-bytes : goal.shape_of-bytes
shape_of-bytes c = c.open_wanted.ensures.long

pub shape_of-columns : goal.shape_of-columns
shape_of-columns c = ap length c.list_columns-count.ensures.0 ∙ columns_length _ _ ∙ sym (sized (goal.at.shape_of-columns c).In_ok-judge_sizes).columns

pub returns : goal.returns
unfolding symbols_read
returns c = let o = c.open_wanted in
    let l = c.list_columns-count in
    let on = c.if-not-open_wanted.false in
    opens_done _ _ _ _ _ _ _ _ _ _ (refused_none _ _ _ _ _ _ _ (sized (goal.at.returns c).In_ok-judge_sizes) (low (goal.at.returns c).Else-touched_bad) (not-true _ (sym o.ensures.judged ∙ on))) (o.ensures.stored on) l.ensures.0 (ap (λ z. c.args.s.k * z) l.ensures.1)
