-- A row of data symbols may stand where it does: bytes within the length, and 0 beyond it.
use mathlib.Core.Path.{◌≡◌, sym, ap₂, ◌∙◌}
use mathlib.Core.Logic.{◌⊎◌, inl, inr}
use mathlib.Core.Bool.{Bool, true, false, not, ◌||◌, true≢false}
use mathlib.Core.List.{List}
use Prim.Native.Nat.{ℕ, ◌+◌, ◌-◌, ◌≤◌, ◌<◌}
use native.Mathlib.Omega.{arith}
use borrow.Author.Tests.{not-true, not-false}
use lib.ListN.{length, get_or, take, drop, length-drop}
use lib.Seq.{get_or-take, get_or-drop, length-take-le}
use Rattle.lists.proofs.Tests.{neither, below_or_not}
use Rattle.shape.specs.Shape.{byte_values}
use Rattle.shape.specs.Refusals.{symbol_bad}
use Rattle.shape.proofs.Accepted.{symbols_accepted, symbols_low}
use Rattle.code.specs.Steps.{data_fits}
use Rattle.code.proofs.Opening.{byte_fits, fits_byte, zero_fits, fits_zero}
use Rattle.opening.specs.Steps.{BeforeEnd, RowFits}

module _ (len at within : ℕ) (row : List ℕ) (w : BeforeEnd len at (length row) within) where
  abbrev front : List ℕ
  front = take within row

  abbrev rest : List ℕ
  rest = take (length row - within) (drop within row)

  front_length : length front ≡ within
  front_length = length-take-le within row w.few

  rest_length : length rest ≡ length row - within
  rest_length = length-take-le (length row - within) (drop within row) (omega (arith, length-drop within row))

  rest_at : (t : ℕ) → t < length row - within → get_or rest t 0 ≡ get_or row (within + t) 0
  rest_at t h = get_or-take (length row - within) (drop within row) t 0 h ∙ get_or-drop within row t 0

  -- whether some symbol in front is no byte, or one behind is not 0
  pub row_judged : (high more : Bool) → high ≡ symbol_bad byte_values (take within row) → more ≡ symbol_bad 1 (take (length row - within) (drop within row))
      → RowFits len at row (not (high || more))
  row_judged high more e d = record {
    each = λ z t h. let n = neither high more (not-true _ z) in fits (sym e ∙ n.0) (sym d ∙ n.1) t h (below_or_not t within);
    not_each = λ z all. true≢false (sym (not-false _ z) ∙ ap₂ ◌||◌ (e ∙ no_high all) (d ∙ no_more all));
  }
    where
      fits : symbol_bad byte_values front ≡ false → symbol_bad 1 rest ≡ false → (t : ℕ) → t < length row → (t < within) ⊎ (within ≤ t) → data_fits len (at + t) (get_or row t 0) ≡ true
      fits u v t h (inl l) =
          byte_fits len (at + t) _ (w.before t l) (rw (get_or-take within row t 0 l) at (symbols_accepted byte_values front u t (rw front_length l)))
      fits u v t h (inr l) =
          let g : t - within < length row - within = omega arith in
          let z : within + (t - within) ≡ t = omega arith in
          let low = rw (rest_at (t - within) g, z) at (symbols_accepted 1 rest v (t - within) (rw rest_length g)) in
          zero_fits len (at + t) _ (w.behind t l h) (omega (arith, low))

      no_high : ((t : ℕ) → t < length row → data_fits len (at + t) (get_or row t 0) ≡ true) → symbol_bad byte_values front ≡ false
      no_high all = symbols_low byte_values front (λ t h.
          let l : t < within = rw front_length at h in
          rw (get_or-take within row t 0 l) (fits_byte len (at + t) _ (w.before t l) (all t (omega (arith, w.few)))))

      no_more : ((t : ℕ) → t < length row → data_fits len (at + t) (get_or row t 0) ≡ true) → symbol_bad 1 rest ≡ false
      no_more all = symbols_low 1 rest (λ t h.
          let l : t < length row - within = rw rest_length at h in
          rw (rest_at t l) (omega (arith, fits_zero len (at + (within + t)) _ (w.behind (within + t) (omega arith) (omega arith)) (all (within + t) (omega arith)))))
