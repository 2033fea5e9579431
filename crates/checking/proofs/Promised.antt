-- The promise of the check: of a call that looked, and of one that was turned back.
use mathlib.Core.Path.{◌≡◌, sym, ap, ◌∙◌}
use mathlib.Core.Logic.{◌≢◌, ◌↔◌, ◌⊎◌, inl, inr}
use mathlib.Core.Bool.{Bool, true, false, cond}
use mathlib.Core.List.{List, []}
use Prim.Native.Nat.{ℕ, ◌-◌, ◌*◌}
use native.Mathlib.Omega.{arith}
use lib.Dec.{eqb}
use Rattle.shape.specs.declared.Shape.{Shape}
use Rattle.shape.specs.Shape.{size, byte_values}
use Rattle.shape.specs.declared.Refusal.{Refusal}
use Rattle.shape.specs.Refusals.{number_of, shape_bad}
use Rattle.shape.proofs.Accepted.{shape_accepted}
use Rattle.shape.proofs.Answers.{number_positive, turned_back, afterwards_done, afterwards_refused}
use Rattle.code.specs.Code.{narrow}
use Rattle.code.specs.Archive.{Codeword, first_unmet, first_high, LowData, OfTranscript}
use Rattle.code.specs.Refusals.{check_refusal}
use Rattle.code.proofs.Accepted.{narrow_accepted, met_iff, codeword_accepted}
use Rattle.code.proofs.Transcripts.{transcript_iff}
use Rattle.std.specs.Prelude.{Option, Ok, Err, Some, None}
use Rattle.checking.specs.declared.Fault.{Fault}
use Rattle.checking.specs.declared.Fault.TheVariants.{Unmet, HighData}
use Rattle.checking.specs.Promises.{Checked, checked_values, checked_by, data_by, check_answer, Checks, FirstUnmet, FirstHigh}
use Rattle.checking.proofs.Answers.{or_either, or_sound_iff}
use Rattle.checking.proofs.Checking.{sound_none_iff, unmet_tells}
use Rattle.checking.proofs.Data.{low_iff, high_tells}

-- what a call that did its work found
within : {found other : Option Fault} → ◌≡◌ {A = Checked} (Ok found) (Ok other) → found ≡ other
within e = ap (λ answer. elim answer as (λ _. Option Fault) [ Ok f ↦ f | Err cause ↦ None ]) e

module _ (s : Shape) (nodes : List ℕ) where
  abbrev r : ℕ
  r = s.n - s.k

  -- a transcript's exactly if it is a codeword with bytes on its data nodes
  of_transcript : shape_bad s ≡ false → (Codeword narrow s nodes × LowData byte_values s nodes) ↔ OfTranscript byte_values narrow s nodes
  of_transcript e = transcript_iff byte_values narrow s (narrow_accepted s e) (omega (arith, (shape_accepted s e).k_high)) (omega arith) (omega arith) nodes

  -- the equations name no symbol, and the data symbols no equation
  no_symbol : (node place : ℕ) → checked_by s (first_unmet narrow s nodes) ≢ Some (HighData node place)
  unfolding checked_by
  no_symbol node place z = go (eqb (first_unmet narrow s nodes) (size s * r)) _ _ _ z
    where
      go : (b : Bool) (layer a t : ℕ) → cond b None (Some (Unmet layer a t)) ≢ Some (HighData node place)
      go true layer a t w = let u : ◌≡◌ {A = ℕ} 0 1 = cc in omega arith
      go false layer a t w = let u : ◌≡◌ {A = ℕ} 0 1 = cc in omega arith

  no_equation : (layer a t : ℕ) → data_by s (first_high byte_values s nodes) ≢ Some (Unmet layer a t)
  unfolding data_by
  no_equation layer a t z = go (eqb (first_high byte_values s nodes) (s.k * size s)) _ _ z
    where
      go : (b : Bool) (node place : ℕ) → cond b None (Some (HighData node place)) ≢ Some (Unmet layer a t)
      go true node place w = let u : ◌≡◌ {A = ℕ} 0 1 = cc in omega arith
      go false node place w = let u : ◌≡◌ {A = ℕ} 0 1 = cc in omega arith

  module _ (accepted : check_refusal narrow s nodes ≡ 0) where
    equations_iff : (checked_by s (first_unmet narrow s nodes) ≡ None) ↔ Codeword narrow s nodes
    equations_iff =
        let none = sound_none_iff s nodes in
        let met = met_iff s nodes accepted in
        (λ e. met.0 (none.0 e), λ w. none.1 (met.1 w))

    answer_sound_iff : (check_answer s nodes ≡ None) ↔ (Codeword narrow s nodes × LowData byte_values s nodes)
    unfolding check_answer
    answer_sound_iff =
        let both = or_sound_iff (checked_by s (first_unmet narrow s nodes)) (data_by s (first_high byte_values s nodes)) in
        let data' = low_iff s nodes in
        (λ e. let w = both.0 e in (equations_iff.0 w.0, data'.0 w.1), λ w. both.1 (equations_iff.1 w.0, data'.1 w.1))

    -- an equation is named by the equations
    answer_unmet : (layer a t : ℕ) → check_answer s nodes ≡ Some (Unmet layer a t) → FirstUnmet s nodes layer a t
    unfolding check_answer
    answer_unmet layer a t e = go (or_either _ _ _ e)
      where
        go : (checked_by s (first_unmet narrow s nodes) ≡ Some (Unmet layer a t))
            ⊎ ((checked_by s (first_unmet narrow s nodes) ≡ None) × (data_by s (first_high byte_values s nodes) ≡ Some (Unmet layer a t))) → FirstUnmet s nodes layer a t
        go (inl z) = unmet_tells s nodes layer a t z
        go (inr z) = absurd (no_equation layer a t z.1)

    -- a symbol is named by the data symbols, and the equations are met
    answer_high : (node place : ℕ) → check_answer s nodes ≡ Some (HighData node place) → Codeword narrow s nodes × FirstHigh s nodes node place
    unfolding check_answer
    answer_high node place e = go (or_either _ _ _ e)
      where
        go : (checked_by s (first_unmet narrow s nodes) ≡ Some (HighData node place))
            ⊎ ((checked_by s (first_unmet narrow s nodes) ≡ None) × (data_by s (first_high byte_values s nodes) ≡ Some (HighData node place)))
            → Codeword narrow s nodes × FirstHigh s nodes node place
        go (inl z) = absurd (no_symbol node place z)
        go (inr z) = (equations_iff.0 z.0, high_tells s nodes node place z.1)

    pub checks_looked : (found : Option Fault) → found ≡ check_answer s nodes → Checks s nodes (Ok found)
    checks_looked found e = record {
      number = sym accepted;
      returned = ap (λ f. checked_values (Ok f)) e ∙ sym (afterwards_done [] _ (check_refusal narrow s nodes) accepted);
      found = λ _. ap Ok e;
      sound = λ _. (λ z. answer_sound_iff.0 (sym e ∙ within z), λ w. ap Ok (e ∙ answer_sound_iff.1 w));
      transcript = λ g. (λ z. (of_transcript g).0 (answer_sound_iff.0 (sym e ∙ within z)), λ w. ap Ok (e ∙ answer_sound_iff.1 ((of_transcript g).1 w)));
      unmet = λ layer a t z. answer_unmet layer a t (sym e ∙ within z);
      high = λ node place z. answer_high node place (sym e ∙ within z);
    }

  module _ (cause : Refusal) (e : number_of cause ≡ check_refusal narrow s nodes) where
    turned : check_refusal narrow s nodes ≡ 0 → ⊥
    turned z = omega (arith, number_positive cause)

    pub checks_refused : Checks s nodes (Err cause)
    checks_refused = record {
      number = e;
      returned = sym (afterwards_refused [] _ cause (check_refusal narrow s nodes) e);
      found = λ z. absurd (turned z);
      sound = λ g. (λ z. absurd (turned_back cause _ z), λ w. absurd (turned (codeword_accepted s nodes g w.0)));
      transcript = λ g. (λ z. absurd (turned_back cause _ z), λ w. absurd (turned (codeword_accepted s nodes g ((of_transcript g).1 w).0)));
      unmet = λ layer a t z. absurd (turned_back cause _ z);
      high = λ node place z. absurd (turned_back cause _ z);
    }
