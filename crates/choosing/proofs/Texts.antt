-- Texts that the plan program prints, and that are not the line of 1 or of 3.
use mathlib.Core.Path.{◌≡◌, refl, sym, ap, ◌∙◌}
use mathlib.Core.Logic.{◌≢◌}
use mathlib.Core.Bool.{Bool, true, false}
use mathlib.Core.List.{List, [], ◌∷◌, ◌++◌, flat_map}
use Prim.Native.Nat.{ℕ, ◌+◌, ◌≤◌, ◌<◌}
use native.Mathlib.Omega.{arith}
use lib.ListN.{length, get_or, length-append}
use Rattle.shape.specs.declared.Shape.{Shape}
use Rattle.shape.specs.Refusals.{refuse}
use Rattle.classes.specs.Classes.{message_size}
use Rattle.transfers.specs.Plan.{transfers, decimal, ending, line, transfer_line, total, plan_text, text_or}
use Rattle.transfers.proofs.Decimals.{decimal_one}

-- a text is not the line of 1 or of 3
abbrev pub Unlike : List ℕ → Type 0
Unlike text = (text ≢ line (1 ∷ [])) × (text ≢ line (3 ∷ []))

-- the line of a number of one digit
line_digit : (x : ℕ) → x < 10 → line (x ∷ []) ≡ (48 + x) ∷ 10 ∷ []
unfolding line ending
line_digit x h = rw (decimal_one x h) refl

-- neither is that of another such number
pub unlike_line : (x : ℕ) → x < 10 → x ≢ 1 → x ≢ 3 → Unlike (line (x ∷ []))
unlike_line x h one three = (λ e. one (same 1 (omega arith) e), λ e. three (same 3 (omega arith) e))
  where
    same : (y : ℕ) → y < 10 → line (x ∷ []) ≡ line (y ∷ []) → x ≡ y
    same y l e = omega (arith, ap (λ bytes. get_or bytes 0 0) (sym (line_digit x h) ∙ e ∙ line_digit y l))

-- every number of a line has a byte behind it
line_long : (xs : List ℕ) → length xs ≤ length (line xs)
unfolding line
line_long [] = omega arith
line_long (x ∷ xs) = omega (arith, line_long xs, length-append (decimal x) (ending (length xs) ∷ line xs))

-- nor is a longer text
unlike_long : (text : List ℕ) → 3 ≤ length text → Unlike text
unlike_long text long = (λ e. omega (arith, ap length (e ∙ line_digit 1 (omega arith))), λ e. omega (arith, ap length (e ∙ line_digit 3 (omega arith))))

-- such as a plan, whose first line has four numbers
unlike_plan : (s : Shape) (dead helpers : List ℕ) → Unlike (plan_text s dead helpers)
unfolding plan_text
unlike_plan s dead helpers = unlike_long ((line first ++ middle) ++ last) (omega (arith, line_long first, length-append (line first) middle, length-append (line first ++ middle) last))
  where
    first : List ℕ
    first = s.n ∷ s.k ∷ s.layers ∷ length dead ∷ []

    middle : List ℕ
    middle = flat_map (transfer_line (message_size s dead)) (transfers dead helpers)

    last : List ℕ
    last = line (total s dead ∷ [])

-- what is printed for lists whose layers are accepted
pub unlike_lists : (s : Shape) (dead helpers : List ℕ) (left two : Bool) → Unlike (text_or (refuse left 6 (refuse two 2 0)) (plan_text s dead helpers))
unfolding text_or
unlike_lists s dead helpers true two = unlike_line 6 (omega arith) (λ e. omega arith) (λ e. omega arith)
unlike_lists s dead helpers false true = unlike_line 2 (omega arith) (λ e. omega arith) (λ e. omega arith)
unlike_lists s dead helpers false false = unlike_plan s dead helpers
