-- `plan::write_text` meets its contract: the first four numbers, the shape and h, then the lists. Assumes nothing.
use mathlib.Core.Path.{refl, sym, ap, ◌∙◌}
use Rattle.shape.specs.Refusals.{answer_number}
use Rattle.plan.proofs.Exits.{puts_as, read_bad, read_good, front_bad, front_refused, front_passed}
use Rattle.plan.proofs.write_text.Goals as goal

pub slice_bounds-read_numbers-end : goal.slice_bounds-read_numbers-end
slice_bounds-read_numbers-end c = refl

pub returns-in_default : goal.returns-in_default
returns-in_default c = puts_as (front_bad _ (read_bad _ _ _ _ c.read_numbers.ensures c.in_default.is)) c.write_refusal.ensures

pub returns-in-Err : goal.returns-in-Err
returns-in-Err c =
    puts_as
    (front_refused _ _ c.in-Some.next (read_good _ _ _ _ c.read_numbers.ensures _ c.in-Some.is) _ (ap answer_number (sym c.in-Err.is) ∙ c.judge_shape.ensures))
    c.write_refusal-in-Err.ensures

pub write_lists-requires : goal.write_lists-requires
write_lists-requires c = (sym c.judge_shape.ensures ∙ ap answer_number c.in_default-judge_shape.is, c.requires)

pub returns : goal.returns
returns c =
    puts_as
    (front_passed _ _ c.in-Some.next (read_good _ _ _ _ c.read_numbers.ensures _ c.in-Some.is) (sym c.judge_shape.ensures ∙ ap answer_number c.in_default-judge_shape.is))
    c.write_lists.ensures
