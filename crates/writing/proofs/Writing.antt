-- Writing: the data nodes once the transcript and the zeros behind it are stored.
use mathlib.Core.Path.{◌≡◌, sym, ap, ◌∙◌}
use mathlib.Core.Logic.{◌⊎◌, inl, inr}
use mathlib.Core.List.{List}
use Prim.Native.Nat.{ℕ, ◌+◌, ◌-◌, ◌≤◌, ◌<◌}
use native.Mathlib.Omega.{arith}
use lib.ListN.{length, get_or, get_or-eq_default}
use Rattle.lists.specs.Lists.{element}
use Rattle.lists.proofs.Tests.{below_or_not}
use Rattle.rows.specs.Rows.{Stored}
use Rattle.writing.specs.Steps.{nothing, DataStored}

pub data_stored : (due : ℕ) (transcript before now after : List ℕ) → Stored 0 (length transcript) (element transcript) before now
    → Stored (length transcript) (due - length transcript) nothing now after → DataStored due transcript before after
unfolding nothing
data_stored due transcript before now after w v = record { long = v.long ∙ w.long; each = λ e h. go e h (below_or_not e (length transcript)) }
  where
    go : (e : ℕ) → e < due → (e < length transcript) ⊎ (length transcript ≤ e) → get_or after e 0 ≡ get_or transcript e 0
    go e h (inl l) = v.ahead e l ∙ ap (λ k. get_or now k 0) (let z : e ≡ 0 + e = omega arith in z) ∙ w.there e l
    go e h (inr l) =
        ap (λ k. get_or after k 0) (let z : e ≡ length transcript + (e - length transcript) = omega arith in z) ∙ v.there (e - length transcript) (omega arith)
        ∙ sym (get_or-eq_default transcript 0 {n = e} l)
