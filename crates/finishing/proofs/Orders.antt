-- Messages in whatever order: finishing gives what the first step of document 01 gives on the same messages, and so the same for every order.
use mathlib.Core.Path.{◌≡◌, refl, sym, ap, ap₂, ◌∙◌}
use mathlib.Core.List.{List}
use Prim.Native.Nat.{ℕ, ◌<◌}
use lib.ListN.{length}
use Rattle.lists.specs.Lists.{position}
use Rattle.lists.proofs.Flats.{flat_ext}
use Rattle.shape.specs.declared.Shape.{Shape}
use Rattle.std.specs.Prelude.{Ok}
use Rattle.shape.specs.Refusals.{Answer}
use Rattle.shape.proofs.Answers.{number_only, afterwards_done}
use Rattle.code.specs.Code.{narrow}
use Rattle.classes.specs.Steps.{own_pairs, exchanges}
use Rattle.judging.specs.Refusals.{first_step_refusal}
use Rattle.repair.specs.Promises.{FirstStep}
use Rattle.arrival.specs.Sums.{no_sums}
use Rattle.arrival.specs.Record.{nobody}
use Rattle.arrival.specs.Promises.{Call, Calls, brought_at, brought, Finishes}
use Rattle.arrival.proofs.Calls.{brought_passes}

module _ (s : Shape) (dead helpers : List ℕ) (new : ℕ) (calls : List Call) (sums heard : List ℕ) (C : Calls s dead helpers new (no_sums s dead) (nobody s) calls sums heard)
    (pairs pairs_after out out_after : List ℕ) (F : Finishes s dead helpers new sums heard pairs pairs_after out out_after (Ok tt)) where
  -- "every order must end in the pairs and outgoing messages of document 01's first step": by the promise of the call first_step, with buffers
  -- of the same lengths, on the messages by which the helpers were heard
  pub as_first_step : (pairs' out' own sent : List ℕ) (answer : Answer) → length pairs' ≡ length pairs → length out' ≡ length out
      → FirstStep s dead helpers new (brought helpers calls) pairs' out' own sent answer → (answer ≡ Ok tt) × (pairs_after ≡ own) × (out_after ≡ sent)
  as_first_step pairs' out' own sent answer l m P =
      let none : first_step_refusal narrow s dead helpers new (brought helpers calls) (length pairs') (length out') ≡ 0 =
      ap₂ (first_step_refusal narrow s dead helpers new (brought helpers calls)) l m
      ∙ brought_passes s dead helpers new calls sums heard C (length pairs) (length out) (sym F.number) in
      let v = F.step refl calls C in (
        number_only answer (Ok tt) (P.number ∙ none),
        v.0 ∙ sym (P.own ∙ afterwards_done pairs' _ _ none),
        v.1 ∙ sym (P.sent ∙ afterwards_done out' _ _ none),
      )

  -- another order, and other calls that were turned back: the same messages end in the same
  pub orders_alike : (calls' : List Call) (sums' heard' pairs' out' own sent : List ℕ) → Calls s dead helpers new (no_sums s dead) (nobody s) calls' sums' heard'
      → Finishes s dead helpers new sums' heard' pairs' own out' sent (Ok tt) → ((j : ℕ) → j < length helpers → brought_at helpers calls j ≡ brought_at helpers calls' j)
      → (pairs_after ≡ own) × (out_after ≡ sent)
  unfolding brought
  orders_alike calls' sums' heard' pairs' out' own sent C' F' same =
      let e = flat_ext (length helpers) (brought_at helpers calls) (brought_at helpers calls') same in
      let v = F.step refl calls C in
      let w = F'.step refl calls' C' in (
        v.0 ∙ ap (own_pairs narrow s dead helpers (position new dead)) e ∙ sym w.0,
        v.1 ∙ ap (exchanges narrow s dead helpers (position new dead)) e ∙ sym w.1,
      )
