-- How many transfers stand in a list: as many as in the plan where it may run; and where as many stand in it, each in the plan and none
-- twice, every transfer of the plan does.
use mathlib.Core.Path.{◌≡◌, refl, sym, ap, ap₂, ◌∙◌}
use mathlib.Core.Bool.{true, ◌&&◌, cond}
use mathlib.Core.List.{List, [], ◌∷◌}
use Prim.Native.Nat.{ℕ, ◌+◌, ◌<◌}
use native.Mathlib.Omega.{arith}
use lib.ListN.{length}
use Rattle.lists.specs.Sums.{sum}
use Rattle.lists.proofs.Tests.{eqb_sym}
use Rattle.lists.proofs.Sums.{sum_ext, sum_first, sum_const, sum_swap, sum_ones}
use Rattle.shape.specs.declared.Shape.{Shape}
use Rattle.shape.proofs.Accepted.{Repairable}
use Rattle.transfers.specs.declared.Transfer.{Transfer}
use Rattle.transfers.specs.Plan.{transfers}
use Rattle.ordering.specs.Ordering.{at, same, times, MayRun}
use Rattle.ordering.specs.Following.{in_plan}
use Rattle.ordering.proofs.Times.{place_times, once_times, once_of}
use Rattle.ordering.proofs.InPlan.{plan_once, in_place, runs_in}

-- ---- counted by the one list, and by the other

-- as often as it stands at a place
times_places : (t : Transfer) (us : List Transfer) → times t us ≡ sum (length us) (λ e. cond (same t (at us e)) 1 0)
unfolding times at sum
times_places t [] = refl
times_places t (u ∷ us) = ap (λ z. cond (same t u) 1 0 + z) (times_places t us) ∙ sym (sum_first (length us) (λ e. cond (same t (at (u ∷ us) e)) 1 0))

same_sym : (t u : Transfer) → same t u ≡ same u t
unfolding same
same_sym t u = ap₂ ◌&&◌ (eqb_sym t.sender u.sender) (eqb_sym t.receiver u.receiver)

times_swap : (us vs : List Transfer) → sum (length us) (λ e. times (at us e) vs) ≡ sum (length vs) (λ x. times (at vs x) us)
times_swap us vs =
    sum_ext (length us) _ _ (λ e l. times_places (at us e) vs)
    ∙ sum_swap (length us) (length vs) (λ e x. cond (same (at us e) (at vs x)) 1 0)
    ∙ sum_ext (length vs) _ _
    (λ x l.
    sum_ext (length us) _ _ (λ e l. ap (λ b. cond b 1 0) (same_sym (at us e) (at vs x)))
    ∙ sym (times_places (at vs x) us))

-- ---- a list of the plan's transfers

module _ (s : Shape) (dead helpers : List ℕ) (R : Repairable s dead helpers) (list : List Transfer) where
  abbrev plan : List Transfer
  plan = transfers dead helpers

  plan_one : (t : Transfer) → in_plan dead helpers t ≡ true → times t plan ≡ 1
  plan_one t e =
      let w = in_place s dead helpers R t e in
      omega (
        arith,
        once_times t plan (λ x y k l p q. plan_once s dead helpers R x y k l (p ∙ sym q)),
        place_times t plan w.place w.below w.is,
      )

  -- each of them is in the plan
  module _ (planned : (x : ℕ) → x < length list → in_plan dead helpers (at list x) ≡ true) where
    in_all : sum (length plan) (λ e. times (at plan e) list) ≡ length list
    in_all =
        times_swap plan list ∙ sum_ext (length list) _ (λ x. 1) (λ x l. plan_one (at list x) (planned x l)) ∙ sum_const (length list) 1
        ∙ omega arith

    -- as many as the plan has, none of them twice
    pub all_stand : length list ≡ length (transfers dead helpers)
        → ((x y : ℕ) → x < length list → y < length list → at list x ≡ at list y → x ≡ y)
        → (e : ℕ) → e < length (transfers dead helpers) → times (at (transfers dead helpers) e) list ≡ 1
    all_stand long once =
        sum_ones (length plan) (λ e. times (at plan e) list)
        (λ e h. once_times (at plan e) list (λ x y k l p q. once x y k l (p ∙ sym q)))
        (omega (arith, in_all))

  -- "every transfer of the plan stands there once, nothing else does"
  pub yes_length : MayRun dead helpers list → length list ≡ length (transfers dead helpers)
  yes_length m =
      sym (in_all (runs_in s dead helpers R list m))
      ∙ sum_ext (length plan) _ (λ e. 1) (once_of dead helpers list m) ∙ sum_const (length plan) 1 ∙ omega arith
