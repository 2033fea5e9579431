-- `card::pack` meets its contract: it turns back with what is judged, or writes the header's numbers and then the symbols.
use mathlib.Core.Path.{◌≡◌, sym, ap, ◌∙◌}
use lib.ListN.{length}
use Rattle.shape.specs.Shape.{symbol_values}
use Rattle.shape.specs.Refusals.{answer_number}
use Rattle.card.specs.Cards.{pack_refusal}
use Rattle.card.proofs.Packing.{packs_refused, header_fits, symbols_fit, packs_done}
use Rattle.shape.proofs.Answers.{handed_on}
use Rattle.card.proofs.pack.Goals as goal
use Rattle.card.proofs.pack.Goals.{In_ok-judge_packing}

-- where nothing is refused
taken : (c : In_ok-judge_packing) →
    let a = c.args in
    pack_refusal symbol_values a.header a.symbols.now (length a.card.now) ≡ 0
taken c = sym c.judge_packing.ensures ∙ ap answer_number c.in_ok-judge_packing.was

pub returns-in_err-judge_packing : goal.returns-in_err-judge_packing
returns-in_err-judge_packing c =
    rw (handed_on _ c.from_residual.ensures.1) (packs_refused _ _ _ _ (ap answer_number (sym c.in_err-judge_packing.was) ∙ c.judge_packing.ensures))

pub write_header-at-requires : goal.write_header-at-requires
write_header-at-requires c = header_fits _ _ c.args.card.now (taken (goal.at.write_header-at-requires c).In_ok-judge_packing)

pub write_symbols-requires : goal.write_symbols-requires
write_symbols-requires c =
    let w = c.write_header-at.ensures in
    symbols_fit _ _ _ (taken (goal.at.write_symbols-requires c).In_ok-judge_packing) _ _ w.0 w.1

pub returns : goal.returns
returns c =
    let w = c.write_header-at.ensures in
    let v = c.write_symbols.ensures in
    packs_done _ _ _ (taken (goal.at.returns c).In_ok-judge_packing) _ _ w.0 w.1 _ _ v.0 v.1
