-- `arrival::caller_bad` meets its contract: the record, then the helper. Assumes nothing.
use mathlib.Core.Path.{sym, ap₂, ◌∙◌}
use mathlib.Core.Bool.{not, ◌||◌}
use Rattle.lists.specs.Lists.{outside}
use Rattle.arrival.proofs.Records.{caller_record, caller_by}
use Rattle.arrival.proofs.caller_bad.Goals as goal

pub returns-then-record_bad : goal.returns-then-record_bad
returns-then-record_bad c most e h = sym (caller_record most _ _ _ (sym (c.record_bad.ensures most e h) ∙ c.if-record_bad.true))

pub returns : goal.returns
unfolding outside
returns c most e h =
    ap₂ (λ a b. not a || b) c.listed.ensures c.heard_before.ensures
    ∙ sym (caller_by most _ _ _ (sym (c.record_bad.ensures most e h) ∙ c.if-record_bad.false))
