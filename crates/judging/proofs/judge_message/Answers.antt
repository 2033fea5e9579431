-- `judging::judge_message` meets its contract: causes 1 to 3, the lengths, then the symbols. Assumes nothing.
use mathlib.Core.Path.{sym, ◌∙◌}
use Rattle.lists.specs.Lists.{outside}
use Rattle.shape.specs.Refusals.{wrong_length}
use Rattle.classes.specs.Classes.{message_size}
use Rattle.shape.proofs.Answers.{handed_on}
use Rattle.judging.specs.Refusals.{message_refusal}
use Rattle.judging.proofs.Judged.{judged_stop, judged_listed, judged_length, judged_symbols, judged_done}
use Rattle.judging.proofs.judge_message.Goals as goal

pub returns-in_err-judge_lists : goal.returns-in_err-judge_lists
unfolding message_refusal outside
returns-in_err-judge_lists c =
    rw (handed_on _ c.from_residual.ensures.1, ← c.listed.ensures, ← c.listed-2.ensures) (judged_stop _ _ _ _ _ c.judge_lists.ensures _ c.in_err-judge_lists.was _)

pub size-full-requires : goal.size-full-requires
size-full-requires c = (judged_listed _ _ _ _ _ c.judge_lists.ensures c.in_ok-judge_lists.was).shaped

pub returns-then-symbols-full : goal.returns-then-symbols-full
unfolding message_refusal outside wrong_length message_size
returns-then-symbols-full c =
    rw (← c.listed.ensures, ← c.listed-2.ensures)
    (judged_length _ _ _ _ _ c.judge_lists.ensures c.in_ok-judge_lists.was _ _ (rw c.size-full.ensures at c.if-symbols-full.true))

pub returns-then-symbol_bad : goal.returns-then-symbol_bad
unfolding message_refusal outside wrong_length message_size
returns-then-symbol_bad c =
    rw (← c.listed.ensures, ← c.listed-2.ensures)
    (judged_symbols _ _ _ _ _ c.judge_lists.ensures c.in_ok-judge_lists.was _ _ (rw c.size-full.ensures at c.if-symbols-full.false) (sym c.symbol_bad.ensures ∙ c.if-symbol_bad.true))

pub returns : goal.returns
unfolding message_refusal outside wrong_length message_size
returns c =
    rw (← c.listed.ensures, ← c.listed-2.ensures)
    (judged_done _ _ _ _ _ c.judge_lists.ensures c.in_ok-judge_lists.was _ _ (rw c.size-full.ensures at c.if-symbols-full.false) (sym c.symbol_bad.ensures ∙ c.if-symbol_bad.false))
