-- `unpacking::unpack` meets its contract: it turns back with the first thing judged, or reads the header and then the symbols.
use mathlib.Core.Path.{◌≡◌, sym, ap, ◌∙◌}
use lib.ListN.{length}
use Rattle.shape.specs.Refusals.{answer_number}
use Rattle.numbers.specs.Numbers.{most_groups}
use Rattle.card.specs.Cards.{front_by, front_of, fronted}
use Rattle.card.proofs.Unpacking.{unpacks_broken, unpacks_header, unpacks_symbols, unpacks_done}
use Rattle.shape.proofs.Answers.{handed_on, some_from_ok_or, none_from_ok_or}
use Rattle.unpacking.proofs.unpack.Goals as goal
use Rattle.unpacking.proofs.unpack.Goals.{In_ok-front, In_ok-judge_header}

-- the header was read
read : (c : In_ok-front) →
    let bytes = c.args.card.now in
    front_of (length bytes) (front_by most_groups bytes) ≡ fronted c.in_ok-front.front.header c.in_ok-front.front.least c.in_ok-front.front.next
read c = sym c.read_header.ensures ∙ some_from_ok_or _ _ _ (sym c.ok_or.ensures.value ∙ c.in_ok-front.was)

pub returns-in_err-front : goal.returns-in_err-front
returns-in_err-front c =
    let e = none_from_ok_or _ _ _ (sym c.ok_or.ensures.value ∙ c.in_err-front.was) in
    rw (handed_on _ c.from_residual.ensures.1, e.1) (unpacks_broken _ _ (sym c.read_header.ensures ∙ e.0))

pub returns-in_err-judge_header : goal.returns-in_err-judge_header
returns-in_err-judge_header c =
    rw (handed_on _ c.from_residual-in_err-judge_header.ensures.1)
    (unpacks_header _ _ _ _ _ (read (goal.at.returns-in_err-judge_header c).In_ok-front) _ (ap answer_number (sym c.in_err-judge_header.was) ∙ c.judge_header.ensures))

-- and is judged
judged : (c : In_ok-judge_header) → answer_number c.judge_header.result ≡ 0
judged c = ap answer_number c.in_ok-judge_header.was

pub returns-in_err-scan_symbols : goal.returns-in_err-scan_symbols
returns-in_err-scan_symbols c =
    let j = (goal.at.returns-in_err-scan_symbols c).In_ok-judge_header in
    rw (handed_on _ c.from_residual-in_err-scan_symbols.ensures.1)
    (unpacks_symbols _ c.args.symbols.now _ _ _
    (read (goal.at.returns-in_err-scan_symbols c).In_ok-front) (sym j.judge_header.ensures ∙ judged j) _
    (ap answer_number (sym c.in_err-scan_symbols.was) ∙ c.scan_symbols.ensures))

pub read_symbols-requires : goal.read_symbols-requires
read_symbols-requires c = sym c.scan_symbols.ensures ∙ ap answer_number c.in_ok-scan_symbols.was

pub returns : goal.returns
returns c =
    let j = (goal.at.returns c).In_ok-judge_header in
    unpacks_done _ _ _ _ _ (read (goal.at.returns c).In_ok-front) (sym j.judge_header.ensures ∙ judged j) _
    (sym c.scan_symbols.ensures ∙ ap answer_number c.in_ok-scan_symbols.was) c.read_symbols.ensures
