-- The promise of the call: a buffer that is too short, and one that is not.
use Rattle.shape.specs.declared.Refusal.{Refusal}
use Rattle.std.specs.Prelude.{Result, Ok, Err}
use mathlib.Core.Path.{◌≡◌, sym, ap, ◌∙◌}
use mathlib.Core.List.{List, [], ◌∷◌}
use Prim.Native.Nat.{ℕ, zero, suc, ◌≤◌, ◌<◌}
use native.Mathlib.Nat.{zero-add}
use native.Mathlib.Omega.{arith}
use borrow.Author.Tests.{lt-ltb, le-ltb}
use lib.ListN.{length}
use lib.Seq.{sets}
use Rattle.lists.proofs.Writing.{sets_front}
use Rattle.shape.specs.declared.Refusal.TheVariants as refusal
use Rattle.shape.specs.Refusals.{afterwards, answer_values}
use Rattle.shape.proofs.Answers.{afterwards_done, afterwards_refused}
use Rattle.card.specs.Promises.{over}
use Rattle.transfers.specs.Plan.{printed, plan_room}
use Rattle.transfers.specs.Promises.{Puts}
use Rattle.plan.specs.Promises.{plan_refusal, Plans}
use Rattle.transfers.proofs.Room.{printed_fits}

module _ (input before : List ℕ) where
  pub plans_refused : length before < plan_room → Plans input before before (Err refusal.WrongLength)
  plans_refused h =
      let e : 4 ≡ plan_refusal (length before) = unfold plan_refusal in rw (lt-ltb (length before) plan_room h) in
      record {
        number = e;
        returned = sym (afterwards_refused [] _ refusal.WrongLength (plan_refusal (length before)) e);
        buffer = sym (afterwards_refused before _ refusal.WrongLength (plan_refusal (length before)) e);
      }

  pub plans_done : {after : List ℕ} {next : ℕ} → plan_room ≤ length before → Puts (printed input) before 0 after next → Plans input before after (Ok next)
  plans_done {after} {next} h p =
      let e : plan_refusal (length before) ≡ 0 = unfold plan_refusal in rw (le-ltb (length before) plan_room h) in
      record {
        number = sym e;
        returned = ap (λ n. n ∷ []) (p.place ∙ zero-add (length (printed input))) ∙ sym (afterwards_done [] _ (plan_refusal (length before)) e);
        buffer = p.held ∙ front ∙ sym (afterwards_done before _ (plan_refusal (length before)) e);
      }
    where
      front : sets before 0 (printed input) ≡ over (printed input) before
      front = unfold over in sets_front (printed input) before (omega (arith, printed_fits input))

-- a text that is written is no longer than the buffer must be
pub text_fits : (input before after : List ℕ) (answer : Result ℕ Refusal) (long : ℕ) → Plans input before after answer → answer ≡ Ok long → long ≤ plan_room
text_fits input before after answer long p e = go (plan_refusal (length before)) (ap answer_values (sym e) ∙ p.returned)
  where
    go : (number : ℕ) → long ∷ [] ≡ afterwards number [] (length (printed input) ∷ []) → long ≤ plan_room
    go zero q = unfold afterwards in (let d : long ≡ length (printed input) = cc in omega (arith, printed_fits input))
    go (suc number) q = unfold afterwards in absurd (omega (arith, ap length q))
