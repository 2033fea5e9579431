-- The promises of hearing and finishing: of a call that did its work, and of one that was turned back.
use mathlib.Core.Path.{◌≡◌, sym, ap, ◌∙◌}
use mathlib.Core.Logic.{◌≢◌}
use mathlib.Core.Bool.{true, false, ◌||◌}
use mathlib.Core.List.{List}
use Prim.Native.Nat.{ℕ, ◌+◌}
use borrow.Author.Tests.{ne_eqb}
use lib.ListN.{length}
use Rattle.lists.specs.Lists.{outside, position}
use Rattle.shape.specs.declared.Shape.{Shape}
use Rattle.shape.specs.declared.Refusal.{Refusal}
use Rattle.shape.specs.declared.Refusal.TheVariants.{BadNodes, WrongLength}
use Rattle.std.specs.Prelude.{Ok, Err}
use Rattle.shape.specs.Refusals.{number_of, answer_number, afterwards, shape_bad, repair_bad, wrong_length, Answer}
use Rattle.shape.proofs.Answers.{number_only, afterwards_done, afterwards_refused}
use Rattle.code.specs.Code.{narrow}
use Rattle.classes.specs.Steps.{own_pairs, exchanges}
use Rattle.judging.specs.Refusals.{lists_refusal}
use Rattle.judging.proofs.Judged.{listed_then}
use Rattle.arrival.specs.Sums.{no_sums, added_to, finished_pairs, finished_exchanges}
use Rattle.arrival.specs.Record.{heard_count, nobody, noted, record_bad, caller_bad, hear_refusal, finish_refusal}
use Rattle.arrival.specs.Promises.{Hears, Call, Calls, brought, Finishes}
use Rattle.arrival.proofs.Records.{or_true}
use Rattle.arrival.proofs.Calls.{calls_step, calls_all}

-- ---- hearing

module _ (s : Shape) (dead helpers : List ℕ) (new helper : ℕ) (message sums heard : List ℕ) where
  abbrev u : ℕ
  u = position new dead

  abbrev cause : ℕ
  cause = hear_refusal narrow s dead helpers new helper message sums heard

  two_is : shape_bad s ≡ false → caller_bad (s.k + 1) helpers heard helper ≡ true → cause ≡ 2
  unfolding hear_refusal lists_refusal
  two_is a b = rw (a, b, or_true (outside dead new), or_true (repair_bad s dead helpers))

  hears : (sums_after heard_after : List ℕ) (answer : Answer) → answer_number answer ≡ cause
      → sums_after ≡ afterwards cause sums (added_to narrow s dead u helper message sums)
      → heard_after ≡ afterwards cause heard (noted helper heard) → Hears s dead helpers new helper message sums sums_after heard heard_after answer
  hears sums_after heard_after answer number added noted = record {
    number = number;
    added = added;
    record_after = noted;
    two = λ a b. let e = sym (two_is a b) in (
      number_only answer (Err BadNodes) (number ∙ two_is a b),
      added ∙ afterwards_refused _ _ BadNodes cause e,
      noted ∙ afterwards_refused _ _ BadNodes cause e,
    );
  }

  pub hears_refused : (r : Refusal) → number_of r ≡ hear_refusal narrow s dead helpers new helper message sums heard
      → Hears s dead helpers new helper message sums sums heard heard (Err r)
  hears_refused r e = hears sums heard (Err r) e (sym (afterwards_refused sums _ r _ e)) (sym (afterwards_refused heard _ r _ e))

  pub hears_done : (sums_after heard_after : List ℕ) → hear_refusal narrow s dead helpers new helper message sums heard ≡ 0
      → sums_after ≡ added_to narrow s dead (position new dead) helper message sums → heard_after ≡ noted helper heard
      → Hears s dead helpers new helper message sums sums_after heard heard_after (Ok tt)
  hears_done sums_after heard_after e a n =
      hears sums_after heard_after (Ok tt) (sym e) (a ∙ sym (afterwards_done sums _ _ e)) (n ∙ sym (afterwards_done heard _ _ e))

-- ---- finishing

module _ (s : Shape) (dead helpers : List ℕ) (new : ℕ) (sums heard pairs out : List ℕ) where
  abbrev rank : ℕ
  rank = position new dead

  abbrev number : ℕ
  number = finish_refusal narrow s dead helpers new sums heard (length pairs) (length out)

  four_is : lists_refusal s dead helpers (outside dead new || record_bad (s.k + 1) helpers heard) 0 ≡ 0 → heard_count heard ≢ s.k + 1 → number ≡ 4
  unfolding finish_refusal wrong_length
  four_is e d =
      listed_then s dead helpers (outside dead new || record_bad (s.k + 1) helpers heard) _ e
      ∙ rw (ne_eqb (heard_count heard) (s.k + 1) d, or_true)

  module _ (pairs_after out_after : List ℕ) (answer : Answer) (n : answer_number answer ≡ number)
      (own : pairs_after ≡ afterwards number pairs (finished_pairs narrow s dead helpers rank sums))
      (sent : out_after ≡ afterwards number out (finished_exchanges narrow s dead helpers rank sums)) where
    step : answer ≡ Ok tt → (calls : List Call) → Calls s dead helpers new (no_sums s dead) (nobody s) calls sums heard
        → (pairs_after ≡ own_pairs narrow s dead helpers rank (brought helpers calls)) × (out_after ≡ exchanges narrow s dead helpers rank (brought helpers calls))
    step d calls w =
        let e = sym n ∙ ap answer_number d in
        let v = calls_step s dead helpers new calls sums heard w (length pairs) (length out) e in
        (own ∙ afterwards_done pairs _ _ e ∙ v.0, sent ∙ afterwards_done out _ _ e ∙ v.1)

    finishes : Finishes s dead helpers new sums heard pairs pairs_after out out_after answer
    finishes = record {
      number = n;
      own = own;
      sent = sent;
      four = λ l d. let e = four_is l d in (
        number_only answer (Err WrongLength) (n ∙ e),
        own ∙ afterwards_refused pairs _ WrongLength number (sym e),
        sent ∙ afterwards_refused out _ WrongLength number (sym e),
      );
      step = step;
      all = λ calls w everyone l f g. number_only answer (Ok tt) (n ∙ calls_all s dead helpers new calls sums heard w everyone l (length pairs) (length out) f g);
    }

  pub finishes_refused : (r : Refusal) → number_of r ≡ finish_refusal narrow s dead helpers new sums heard (length pairs) (length out)
      → Finishes s dead helpers new sums heard pairs pairs out out (Err r)
  finishes_refused r e = finishes pairs out (Err r) e (sym (afterwards_refused pairs _ r _ e)) (sym (afterwards_refused out _ r _ e))

  pub finishes_done : (pairs_after out_after : List ℕ) → finish_refusal narrow s dead helpers new sums heard (length pairs) (length out) ≡ 0
      → pairs_after ≡ finished_pairs narrow s dead helpers (position new dead) sums → out_after ≡ finished_exchanges narrow s dead helpers (position new dead) sums
      → Finishes s dead helpers new sums heard pairs pairs_after out out_after (Ok tt)
  finishes_done pairs_after out_after e a b =
      finishes pairs_after out_after (Ok tt) (sym e) (a ∙ sym (afterwards_done pairs _ _ e)) (b ∙ sym (afterwards_done out _ _ e))
