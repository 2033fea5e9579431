-- What an answer tells: its number is no other's, and 0 where the call did its work; what a lent buffer then holds.
use mathlib.Core.Path.{◌≡◌, refl, sym, ap, ◌∙◌}
use mathlib.Core.Bool.{cond}
use mathlib.Core.List.{List}
use Prim.Native.Nat.{ℕ, zero, suc, ◌<◌}
use native.Mathlib.Omega.{arith}
use lib.Dec.{eqb}
use Rattle.shape.specs.declared.Refusal.{Refusal}
use Rattle.shape.specs.declared.Refusal.TheVariants.{BadShape, BadNodes, PartBatch, WrongLength, BadSymbol, Malformed, NoTranscript, PastEnd, NoLayers, BadChange, BadOrder}
use Rattle.std.specs.Prelude.{Option, Some, None, Result, Ok, Err, IsErrAnd, ok_or}
use Rattle.std.proofs.lemmas.Result.{err_from_is_err_and}
use Rattle.shape.specs.Refusals.{Answer, number_of, answer_number, afterwards}

pub number_positive : (r : Refusal) → 0 < number_of r
number_positive BadShape = omega arith
number_positive BadNodes = omega arith
number_positive PartBatch = omega arith
number_positive WrongLength = omega arith
number_positive BadSymbol = omega arith
number_positive Malformed = omega arith
number_positive NoTranscript = omega arith
number_positive PastEnd = omega arith
number_positive NoLayers = omega arith
number_positive BadChange = omega arith
number_positive BadOrder = omega arith

-- a call that turned back did not do its work
pub turned_back : {A : Type 0} (cause : Refusal) (found : A) → ◌≡◌ {A = Result A Refusal} (Err cause) (Ok found) → ⊥
turned_back cause found e = absurd (omega (arith, number_positive cause, ap answer_number e))

-- a cause that a call below turned back with is handed on by `?` as it is
pub handed_on : {A : Type 0} {cause : Refusal} (answer : Result A Refusal) → IsErrAnd answer (λ other. other ≡ cause) → answer ≡ Err cause
handed_on answer h = let p = err_from_is_err_and answer h in p.1 ∙ ap Err p.2

-- what `ok_or` makes of something and of nothing
pub some_from_ok_or : {A : Type 0} (found : Option A) (cause : Refusal) (x : A) → ok_or found cause ≡ Ok x → found ≡ Some x
some_from_ok_or None cause x e = absurd (turned_back cause x e)
some_from_ok_or (Some y) cause x e = ap Some (let h : y ≡ x = cc in h)

pub none_from_ok_or : {A : Type 0} (found : Option A) (cause other : Refusal) → ok_or found cause ≡ Err other → (found ≡ None) × (other ≡ cause)
none_from_ok_or None cause other e = (refl, let h : other ≡ cause = cc in h)
none_from_ok_or (Some y) cause other e = absurd (turned_back other y (sym e))

-- the answer that a number is of
answer_of : ℕ → Answer
answer_of n =
    cond (eqb n 1) (Err BadShape)
    (cond (eqb n 2) (Err BadNodes)
    (cond (eqb n 3) (Err PartBatch)
    (cond (eqb n 4) (Err WrongLength)
    (cond (eqb n 5) (Err BadSymbol)
    (cond (eqb n 6) (Err Malformed)
    (cond (eqb n 7) (Err NoTranscript)
    (cond (eqb n 9) (Err PastEnd)
    (cond (eqb n 11) (Err NoLayers)
    (cond (eqb n 12) (Err BadChange)
    (cond (eqb n 13) (Err BadOrder) (Ok tt)))))))))))

answer_of_lem : (answer : Answer) → answer_of (answer_number answer) ≡ answer
unfolding answer_of
answer_of_lem (Ok tt) = refl
answer_of_lem (Err BadShape) = refl
answer_of_lem (Err BadNodes) = refl
answer_of_lem (Err PartBatch) = refl
answer_of_lem (Err WrongLength) = refl
answer_of_lem (Err BadSymbol) = refl
answer_of_lem (Err Malformed) = refl
answer_of_lem (Err NoTranscript) = refl
answer_of_lem (Err PastEnd) = refl
answer_of_lem (Err NoLayers) = refl
answer_of_lem (Err BadChange) = refl
answer_of_lem (Err BadOrder) = refl

-- no two answers have one number
pub number_only : (answer other : Answer) → answer_number answer ≡ answer_number other → answer ≡ other
number_only answer other e = sym (answer_of_lem answer) ∙ ap answer_of e ∙ answer_of_lem other

-- a buffer when the call did its work, and when it turned back with a cause
module _ (before made : List ℕ) where
  pub afterwards_done : (number : ℕ) → number ≡ 0 → afterwards number before made ≡ made
  unfolding afterwards
  afterwards_done number e = rw e

  pub afterwards_refused : (r : Refusal) (number : ℕ) → number_of r ≡ number → afterwards number before made ≡ before
  unfolding afterwards
  afterwards_refused r zero e = absurd (omega (arith, number_positive r))
  afterwards_refused r (suc number) e = refl
