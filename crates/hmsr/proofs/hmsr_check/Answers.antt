-- `hmsr::hmsr_check` meets its contract: each answer of the check has its number. Assumes nothing.
use mathlib.Core.Path.{sym, ap, ◌∙◌}
use Prim.Native.Nat.{◌+◌}
use Rattle.std.specs.Prelude.{Ok, Some}
use Rattle.returned.specs.Promises.{first_found, check_returned}
use Rattle.returned.proofs.Equations.{unmet_shape, high_shape}
use Rattle.hmsr.proofs.hmsr_check.Goals as goal

pub equation_number-requires : goal.equation_number-requires
equation_number-requires c = unmet_shape _ _ _ _ _ _ c.check.ensures (c.in-Ok-Some-Unmet.is ∙ ap Ok c.in-Ok-Some-Unmet.field-0-is ∙ ap (λ f. Ok (Some f)) c.in-Ok-Some-Unmet.field-0-0-is)

pub symbol_number-requires : goal.symbol_number-requires
symbol_number-requires c = high_shape _ _ _ _ _ c.check.ensures (c.in-Ok-Some-HighData.is ∙ ap Ok c.in-Ok-Some-HighData.field-0-is ∙ ap (λ f. Ok (Some f)) c.in-Ok-Some-HighData.field-0-0-is)

pub returns-in-Ok-None : goal.returns-in-Ok-None
returns-in-Ok-None c = record { answer = _; kept = c.check.ensures; returned = sym (ap (check_returned _) (c.in-Ok-None.is ∙ ap Ok c.in-Ok-None.field-0-is)) }

pub returns-in-Err : goal.returns-in-Err
returns-in-Err c =
    record { answer = _; kept = c.check.ensures; returned = c.from.ensures ∙ sym (ap (check_returned _) c.in-Err.is) }

pub returns-in-Ok-Some-Unmet : goal.returns-in-Ok-Some-Unmet
returns-in-Ok-Some-Unmet c =
    record {
      answer = _;
      kept = c.check.ensures;
      returned = ap (λ e. first_found + e) c.equation_number.ensures.0 ∙ sym (ap (check_returned _) (c.in-Ok-Some-Unmet.is ∙ ap Ok c.in-Ok-Some-Unmet.field-0-is ∙ ap (λ f. Ok (Some f)) c.in-Ok-Some-Unmet.field-0-0-is));
    }

pub returns-in-Ok-Some-HighData : goal.returns-in-Ok-Some-HighData
returns-in-Ok-Some-HighData c =
    record {
      answer = _;
      kept = c.check.ensures;
      returned = ap (λ e. first_found + e) c.symbol_number.ensures.0 ∙ sym (ap (check_returned _) (c.in-Ok-Some-HighData.is ∙ ap Ok c.in-Ok-Some-HighData.field-0-is ∙ ap (λ f. Ok (Some f)) c.in-Ok-Some-HighData.field-0-0-is));
    }
