-- `card::judge_packing` meets its contract: what is judged of the header, then the card's buffer, then the symbols.
use mathlib.Core.Path.{◌≡◌, sym, ap, ◌∙◌}
use mathlib.Core.Bool.{false}
use native.Mathlib.Omega.{arith}
use borrow.Author.Tests.{eq-eqb, ne_eqb}
use lib.ListN.{length}
use Rattle.shape.specs.Refusals.{answer_number, wrong_length}
use Rattle.card.specs.Cards.{header_refusal, card_room}
use Rattle.card.proofs.Judging.{header_accepted, pack_turns, pack_sizes, pack_symbols, pack_good}
use Rattle.shape.proofs.Answers.{handed_on}
use Rattle.card.proofs.judge_packing.Goals as goal
use Rattle.card.proofs.judge_packing.Goals.{In_ok-judge_header, Else-room-size}

-- where the header is judged
good : (c : In_ok-judge_header) →
    let a = c.args in
    header_refusal 0 a.header (length a.symbols.now) 0 ≡ 0
good c = sym c.judge_header.ensures ∙ ap answer_number c.in_ok-judge_header.was

pub returns-in_err-judge_header : goal.returns-in_err-judge_header
returns-in_err-judge_header c = rw (handed_on _ c.from_residual.ensures.1) (pack_turns _ _ _ _ _ (ap answer_number (sym c.in_err-judge_header.was) ∙ c.judge_header.ensures))

pub size-requires : goal.size-requires
size-requires c = (header_accepted _ _ _ 0 (good (goal.at.size-requires c).In_ok-judge_header)).0.shape_good_lem

pub overflow_mul-size : goal.overflow_mul-size
overflow_mul-size c = omega (arith, (header_accepted _ _ _ 0 (good (goal.at.overflow_mul-size c).In_ok-judge_header)).0.shaped.size_high, c.size.ensures)

pub overflow_add-size : goal.overflow_add-size
overflow_add-size c = omega (arith, (header_accepted _ _ _ 0 (good (goal.at.overflow_add-size c).In_ok-judge_header)).0.shaped.size_high, c.size.ensures)

pub returns-then-room-size : goal.returns-then-room-size
unfolding wrong_length card_room
returns-then-room-size c = sym (pack_sizes _ _ _ _ (good (goal.at.returns-then-room-size c).In_ok-judge_header) (rw (ne_eqb _ _ (rw c.size.ensures at c.if-room-size.true))))

-- where the card's buffer is judged
roomy : (c : Else-room-size) →
    let a = c.args in
    wrong_length a.room (card_room a.header.shape) ≡ false
unfolding wrong_length card_room
roomy c = rw (eq-eqb _ _ (rw c.size.ensures at c.if-room-size.false))

pub returns-then-symbol_bad : goal.returns-then-symbol_bad
returns-then-symbol_bad c = sym (pack_symbols _ _ _ _ (good (goal.at.returns-then-symbol_bad c).In_ok-judge_header) (roomy (goal.at.returns-then-symbol_bad c).Else-room-size) (sym c.symbol_bad.ensures ∙ c.if-symbol_bad.true))

pub returns : goal.returns
returns c = sym (pack_good _ _ _ _ (good (goal.at.returns c).In_ok-judge_header) (roomy (goal.at.returns c).Else-room-size) (sym c.symbol_bad.ensures ∙ c.if-symbol_bad.false))
