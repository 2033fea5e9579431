-- What is known where hearing and finishing are not turned back; and where that is known, they are not.
use mathlib.Core.Path.{◌≡◌, ap, ◌∙◌}
use mathlib.Core.Bool.{Bool, false, not, ◌||◌}
use mathlib.Core.List.{List}
use Prim.Native.Nat.{ℕ, ◌+◌, ◌*◌, ◌-◌, ◌<◌}
use borrow.Author.Tests.{eq-eqb}
use lib.ListN.{length, get_or}
use Rattle.lists.specs.Lists.{outside}
use Rattle.lists.proofs.Tests.{neither}
use Rattle.shape.specs.declared.Shape.{Shape}
use Rattle.shape.specs.Refusals.{wrong_length, symbol_bad}
use Rattle.shape.proofs.Accepted.{symbols_accepted, symbols_low}
use Rattle.code.specs.Code.{narrow}
use Rattle.classes.specs.Classes.{message_size}
use Rattle.judging.specs.Refusals.{lists_refusal, first_step_refusal}
use Rattle.judging.proofs.Judged.{Listed, judged_passed, right_length, FirstPassed}
use Rattle.arrival.specs.Sums.{kept_size}
use Rattle.arrival.specs.Record.{heard_count, record_bad, caller_bad, hear_refusal, finish_refusal}
use Rattle.arrival.proofs.Records.{Recorded, record_accepted, record_right}

length_right : (had due : ℕ) → had ≡ due → wrong_length had due ≡ false
unfolding wrong_length
length_right had due e = ap not (eq-eqb had due e)

module _ (s : Shape) (dead helpers : List ℕ) where
  listed_clear : (unnamed : Bool) (rest : ℕ) → Listed s dead helpers unnamed → lists_refusal s dead helpers unnamed rest ≡ rest
  unfolding lists_refusal
  listed_clear unnamed rest L = rw (L.shaped, L.lists, L.named, L.layers)

  -- of two that may be unnamed
  module _ (a b : Bool) where
    listed_first : Listed s dead helpers (a || b) → Listed s dead helpers a
    listed_first L = record { shaped = L.shaped; lists = L.lists; named = (neither a b L.named).0; layers = L.layers }

    listed_both : Listed s dead helpers a → b ≡ false → Listed s dead helpers (a || b)
    listed_both L e = record { shaped = L.shaped; lists = L.lists; named = rw L.named e; layers = L.layers }

  module _ (new : ℕ) where
    -- ---- hearing

    pub record HearPassed (helper : ℕ) (message sums heard : List ℕ) : Type 0 where
      pub listed : Listed s dead helpers (outside dead new)
      pub caller : caller_bad (s.k + 1) helpers heard helper ≡ false
      pub message_long : length message ≡ message_size s dead
      pub sums_long : length sums ≡ kept_size s dead
      pub heard_long : length heard ≡ s.k + 2
      pub message_low : (e : ℕ) → e < length message → get_or message e 0 < narrow.modulus
      pub sums_low : (e : ℕ) → e < length sums → get_or sums e 0 < narrow.modulus

    module _ (helper : ℕ) (message sums heard : List ℕ) where
      pub hear_passed : hear_refusal narrow s dead helpers new helper message sums heard ≡ 0 → HearPassed helper message sums heard
      unfolding hear_refusal
      hear_passed e =
          let p = judged_passed s dead helpers _ _ (symbol_bad narrow.modulus message || symbol_bad narrow.modulus sums) e in
          let l = neither _ _ p.1 in
          let m = neither _ _ l.0 in
          let b = neither (symbol_bad narrow.modulus message) (symbol_bad narrow.modulus sums) p.2 in
          record {
            listed = listed_first (outside dead new) (caller_bad (s.k + 1) helpers heard helper) p.0;
            caller = (neither (outside dead new) (caller_bad (s.k + 1) helpers heard helper) p.0.named).1;
            message_long = right_length _ _ m.0;
            sums_long = right_length _ _ m.1;
            heard_long = right_length _ _ l.1;
            message_low = symbols_accepted narrow.modulus message b.0;
            sums_low = symbols_accepted narrow.modulus sums b.1;
          }

      pub hear_clear : HearPassed helper message sums heard → hear_refusal narrow s dead helpers new helper message sums heard ≡ 0
      unfolding hear_refusal
      hear_clear P =
          listed_clear _ _ (listed_both (outside dead new) (caller_bad (s.k + 1) helpers heard helper) P.listed P.caller)
          ∙ rw (
            length_right (length message) (message_size s dead) P.message_long,
            length_right (length sums) (kept_size s dead) P.sums_long,
            length_right (length heard) (s.k + 2) P.heard_long,
            symbols_low narrow.modulus message P.message_low,
            symbols_low narrow.modulus sums P.sums_low,
          )

    -- ---- finishing

    pub record FinishPassed (sums heard : List ℕ) (pairs out : ℕ) : Type 0 where
      pub listed : Listed s dead helpers (outside dead new)
      pub recorded : Recorded (s.k + 1) helpers heard
      pub sums_long : length sums ≡ kept_size s dead
      pub heard_long : length heard ≡ s.k + 2
      pub pairs_due : pairs ≡ 2 * message_size s dead
      pub out_due : out ≡ (length dead - 1) * message_size s dead
      pub full : heard_count heard ≡ s.k + 1
      pub sums_low : (e : ℕ) → e < length sums → get_or sums e 0 < narrow.modulus

    module _ (sums heard : List ℕ) (pairs out : ℕ) where
      pub finish_passed : finish_refusal narrow s dead helpers new sums heard pairs out ≡ 0 → FinishPassed sums heard pairs out
      unfolding finish_refusal
      finish_passed e =
          let p = judged_passed s dead helpers _ _ (symbol_bad narrow.modulus sums) e in
          let l = neither _ _ p.1 in
          let m = neither _ _ l.0 in
          let k = neither _ _ m.0 in
          let j = neither _ _ k.0 in
          record {
            listed = listed_first (outside dead new) (record_bad (s.k + 1) helpers heard) p.0;
            recorded = record_accepted (s.k + 1) helpers heard (neither (outside dead new) (record_bad (s.k + 1) helpers heard) p.0.named).1;
            sums_long = right_length _ _ j.0;
            heard_long = right_length _ _ j.1;
            pairs_due = right_length _ _ k.1;
            out_due = right_length _ _ m.1;
            full = right_length _ _ l.1;
            sums_low = symbols_accepted narrow.modulus sums p.2;
          }

      pub finish_clear : FinishPassed sums heard pairs out → finish_refusal narrow s dead helpers new sums heard pairs out ≡ 0
      unfolding finish_refusal
      finish_clear P =
          listed_clear _ _
          (listed_both (outside dead new) (record_bad (s.k + 1) helpers heard) P.listed (record_right (s.k + 1) helpers heard P.recorded))
          ∙ rw (
            length_right (length sums) (kept_size s dead) P.sums_long,
            length_right (length heard) (s.k + 2) P.heard_long,
            length_right pairs (2 * message_size s dead) P.pairs_due,
            length_right out ((length dead - 1) * message_size s dead) P.out_due,
            length_right (heard_count heard) (s.k + 1) P.full,
            symbols_low narrow.modulus sums P.sums_low,
          )

    -- ---- a first step

    pub first_clear : (messages : List ℕ) (pairs out : ℕ) → FirstPassed s dead helpers new messages pairs out
        → first_step_refusal narrow s dead helpers new messages pairs out ≡ 0
    unfolding first_step_refusal
    first_clear messages pairs out P =
        listed_clear _ _ P.listed
        ∙ rw (
          length_right (length messages) ((s.k + 1) * message_size s dead) P.long,
          length_right pairs (2 * message_size s dead) P.pairs_due,
          length_right out ((length dead - 1) * message_size s dead) P.sums_due,
          symbols_low narrow.modulus messages P.below,
        )
