-- What a yes promises, for any good code; the list as it is lent; and the promise of the call, from its number.
use mathlib.Core.Path.{◌≡◌, sym, ap, subst, ◌∙◌}
use mathlib.Core.Logic.{◌⊎◌, inl, inr}
use mathlib.Core.Bool.{Bool, true, false, not}
use mathlib.Core.List.{List}
use Prim.Native.Nat.{ℕ, ◌+◌, ◌*◌, ◌/◌, ◌<◌}
use native.Mathlib.Omega.{arith}
use borrow.Author.Tests.{not-false}
use lib.ListN.{length, get_or}
use Rattle.lists.proofs.Tests.{true_or_false}
use Rattle.lists.proofs.Tables.{tabulate_length, tabulate_at}
use Rattle.shape.specs.declared.Shape.{Shape}
use Rattle.std.specs.Prelude.{Ok, Err}
use Rattle.shape.specs.declared.Refusal.TheVariants.{BadOrder}
use Rattle.shape.specs.Shape.{size}
use Rattle.shape.specs.Refusals.{answer_number, refuse, repair_bad, Answer}
use Rattle.shape.proofs.Accepted.{passed, repair_accepted}
use Rattle.shape.proofs.Answers.{number_only, afterwards_done}
use Rattle.code.specs.Code.{Code, GoodCode, narrow}
use Rattle.code.proofs.Accepted.{narrow_accepted}
use Rattle.classes.specs.Whole.{wire, repaired, WholeRepair}
use Rattle.judging.specs.Refusals.{lists_refusal}
use Rattle.judging.proofs.Judged.{Listed, listed_passed, refuse_true, refuse_false}
use Rattle.repair.specs.Promises.{Repaired}
use Rattle.repair.proofs.Whole.{whole_repair}
use Rattle.transfers.specs.Plan.{transfers, no_transfer}
use Rattle.ordering.specs.Ordering.{between, pair_at, pairs, at, may_run, odd_count, pairs_refusal, order_refusal, MayRun}
use Rattle.ordering.specs.Running.{ran}
use Rattle.ordering.specs.Promises.{Orders}
use Rattle.ordering.proofs.Times.{says, said}
use Rattle.ordering.proofs.InPlan.{own_order}
use Rattle.ordering.proofs.Running.{ran_repairs}

-- ---- the list as it is lent

pub pairs_length : (numbers : List ℕ) → length (pairs numbers) ≡ length numbers / 2
unfolding pairs
pairs_length numbers = tabulate_length (length numbers / 2) (pair_at numbers)

pub pairs_at : (numbers : List ℕ) (x : ℕ) → x < length numbers / 2 → at (pairs numbers) x ≡ between (get_or numbers (x * 2) 0) (get_or numbers (x * 2 + 1) 0)
unfolding pairs pair_at at
pairs_at numbers x h = tabulate_at (length numbers / 2) (pair_at numbers) x no_transfer h

-- the plan's own order may run, in every accepted repair
pub plan_runs : (s : Shape) (dead helpers : List ℕ) → repair_bad s dead helpers ≡ false → may_run dead helpers (transfers dead helpers) ≡ true
plan_runs s dead helpers e = own_order s dead helpers (repair_accepted s dead helpers e)

-- ---- what the number says

module _ (s : Shape) (dead helpers numbers : List ℕ) where
  abbrev answered : Bool
  answered = may_run dead helpers (pairs numbers)

  pairs_passed : (rest : ℕ) → pairs_refusal s dead helpers numbers rest ≡ 0 → Listed s dead helpers false × (odd_count numbers ≡ false) × (rest ≡ 0)
  unfolding pairs_refusal
  pairs_passed rest e =
      let l = listed_passed s dead helpers false _ e in
      let four = passed (odd_count numbers) 3 rest l.1 in
      (l.0, four.0, four.1)

  -- where nothing before 13 turns the call back, the list itself decides
  pub pairs_then : (rest : ℕ) → pairs_refusal s dead helpers numbers 0 ≡ 0 → pairs_refusal s dead helpers numbers rest ≡ rest
  unfolding pairs_refusal lists_refusal
  pairs_then rest e = let p = pairs_passed 0 e in rw (p.0.shaped, p.0.lists, p.0.layers, p.1)

  -- what is known where the number is 0
  pub record Orderly : Type 0 where
    pub listed : Listed s dead helpers false
    pub may : MayRun dead helpers (pairs numbers)

  pub order_accepted : order_refusal s dead helpers numbers ≡ 0 → Orderly
  unfolding order_refusal
  order_accepted z = let p = pairs_passed _ z in record { listed = p.0; may = says dead helpers (pairs numbers) (not-false _ (passed (not answered) 12 0 p.2).0) }

  -- "The yes promises that running the list in that order leaves every dead drive as an accepted whole repair of the same archive does":
  -- all n nodes, whatever they hold
  pub runs_as_repair : (c : Code) (nodes : List ℕ) → order_refusal s dead helpers numbers ≡ 0
      → ran c s dead helpers nodes (pairs numbers) ≡ repaired c s dead helpers nodes
  runs_as_repair c nodes z =
      let O = order_accepted z in
      ran_repairs c s dead helpers nodes (repair_accepted s dead helpers O.listed.lists) (pairs numbers) O.may

  -- "and so restored where demand 3 says it is"
  pub runs_restore : (c : Code) (nodes : List ℕ) → GoodCode c s.n → length nodes ≡ s.n * size s → order_refusal s dead helpers numbers ≡ 0
      → WholeRepair c s dead helpers nodes (wire c s dead helpers nodes) (ran c s dead helpers nodes (pairs numbers))
  runs_restore c nodes good long z =
      let O = order_accepted z in
      subst (WholeRepair c s dead helpers nodes (wire c s dead helpers nodes)) (sym (runs_as_repair c nodes z))
      (whole_repair c s dead helpers nodes good O.listed.lists O.listed.layers long)

  -- ---- the promise

  module _ (answer : Answer) (e : answer_number answer ≡ order_refusal s dead helpers numbers) where
    done : answer ≡ Ok tt → order_refusal s dead helpers numbers ≡ 0
    done d = sym e ∙ ap answer_number d

    module _ (free : pairs_refusal s dead helpers numbers 0 ≡ 0) where
      decided : answer_number answer ≡ refuse (not answered) 13 0
      unfolding order_refusal
      decided = e ∙ pairs_then _ free

      may_done : MayRun dead helpers (pairs numbers) → answer_number answer ≡ 0
      may_done m = decided ∙ refuse_false (not answered) 13 0 (ap not (said dead helpers (pairs numbers) m))

      refused : (MayRun dead helpers (pairs numbers) → ⊥) → answer ≡ Err BadOrder
      refused d = number_only answer (Err BadOrder) (go (true_or_false answered))
        where
          go : (answered ≡ true) ⊎ (answered ≡ false) → answer_number answer ≡ 13
          go (inl t) = absurd (d (says dead helpers (pairs numbers) t))
          go (inr t) = decided ∙ refuse_true (not answered) 13 0 (ap not t)

      not_run : answer ≡ Err BadOrder → MayRun dead helpers (pairs numbers) → ⊥
      not_run d m = omega (arith, ap answer_number d, may_done m)

    accepted_leaves : answer ≡ Ok tt → (nodes nodes_after wires wires_after : List ℕ) → Repaired s dead helpers nodes nodes_after wires wires_after (Ok tt)
        → ran narrow s dead helpers nodes (pairs numbers) ≡ nodes_after
    accepted_leaves d nodes nodes_after wires wires_after p =
        runs_as_repair narrow nodes (done d) ∙ sym (p.restored ∙ afterwards_done nodes (repaired narrow s dead helpers nodes) _ (sym p.number))

    -- the whole promise, from the number
    pub orders : Orders s dead helpers numbers answer
    orders = record {
      number = e;
      yes = λ free. (λ d. (order_accepted (done d)).may, λ m. number_only answer (Ok tt) (may_done free m));
      no = λ free. (not_run free, refused free);
      runs = λ d nodes. runs_as_repair narrow nodes (done d);
      leaves = accepted_leaves;
      restored = λ d nodes X long word held.
          (runs_restore narrow nodes (narrow_accepted s (order_accepted (done d)).listed.shaped) long (done d)).exact X word held;
    }
