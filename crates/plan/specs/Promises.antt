-- What the plan's call promises: the number, the text's length, and the lent buffer when the call returns; and what was read into a slice of numbers.
use Rattle.shape.specs.declared.Refusal.{Refusal}
use Rattle.std.specs.Prelude.{◌≡◌, List, [], ◌∷◌, ℕ, ltb, length, drop, Option, Some, None, Result}
use Rattle.shape.specs.Refusals.{refuse, afterwards, answer_number, answer_values}
use Rattle.numbers.specs.Numbers.{Numbers, values, broken}
use Rattle.card.specs.Promises.{over}
use Rattle.transfers.specs.Plan.{printed, plan_room}

-- ---- the call

-- 4: a text buffer of `room` bytes is too short. Nothing else turns the call back: a refusal of the program is a text.
unfoldable pub plan_refusal : ℕ → ℕ
plan_refusal room = refuse (ltb room plan_room) 4 0

-- writing what the program prints for an input into the front of a buffer; "bytes behind" the text keep their values
pub record Plans (input before after : List ℕ) (answer : Result ℕ Refusal) : Type 0 where
  pub number : answer_number answer ≡ plan_refusal (length before)
  pub returned : answer_values answer ≡ afterwards (plan_refusal (length before)) [] (length (printed input) ∷ [])
  pub buffer : after ≡ afterwards (plan_refusal (length before)) before (over (printed input) before)

-- ---- inner functions

-- what was read into a slice of numbers: they and the bytes behind them, or no numbers
unfoldable pub numbers_of : List ℕ → List ℕ → Option ℕ → Numbers
numbers_of bytes numbers None = broken
numbers_of bytes numbers (Some next) = values numbers (drop next bytes)
