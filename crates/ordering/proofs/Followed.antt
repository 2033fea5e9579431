-- A list gone through from its front: it may run exactly if it is as long as the plan and each transfer may follow those before it; and the
-- table of what has been sent, a transfer more.
use mathlib.Core.Path.{◌≡◌, refl, sym, ap, ap₂, ◌∙◌}
use mathlib.Core.Logic.{◌≢◌, ◌⊎◌, inl, inr}
use mathlib.Core.Bool.{Bool, true, false, not, ◌&&◌, ◌||◌, cond, true≢false}
use mathlib.Core.List.{List, []}
use Prim.Native.Nat.{ℕ, ◌+◌, ◌*◌, ◌≤◌, ◌<◌}
use native.Mathlib.Omega.{arith}
use borrow.Author.Tests.{eq-eqb, ne_eqb, not-true}
use lib.Dec.{eqb}
use lib.ListN.{length, get_or, take, set, replicate, length-set, length-replicate, get_or-replicate}
use lib.Seq.{get_or-set_same, get_or-set_other}
use Rattle.lists.specs.Lists.{all, member, position, rising}
use Rattle.lists.proofs.Tests.{both, below_or_not, true_or_false, all_ext}
use Rattle.lists.proofs.Members.{at_position, rising_below}
use Rattle.shape.specs.declared.Shape.{Shape}
use Rattle.shape.specs.Shape.{most_nodes}
use Rattle.shape.proofs.Accepted.{Repairable}
use Rattle.transfers.specs.declared.Transfer.{Transfer}
use Rattle.transfers.specs.Plan.{transfers}
use Rattle.ordering.specs.Ordering.{between, at, same, times, stands, sent_before, ready_at, may_run, MayRun}
use Rattle.ordering.specs.Following.{in_plan, by_list, by_table, sent_to, may_follow, Sent, Nodes}
use Rattle.ordering.proofs.Times.{same_true, same_refl, stands_place, place_stands, front_place, place_front, behind_ready, tests_passed, says, times_none, times_next}
use Rattle.ordering.proofs.InPlan.{in_plan_lem, runs_in, planned_by_lists}
use Rattle.ordering.proofs.Counted.{all_stand, yes_length}

-- ---- each transfer by those before it

module _ (s : Shape) (dead helpers : List ℕ) (R : Repairable s dead helpers) (list : List Transfer) where
  abbrev before : ℕ → ℕ → ℕ → Bool
  before x = by_list (take x list)

  abbrev follows : ℕ → Bool
  follows x = may_follow dead helpers (before x) (at list x)

  parts : (x : ℕ) → follows x ≡ (in_plan dead helpers (at list x) && not (stands (at list x) (take x list)) && ready_at dead helpers list x)
  unfolding may_follow by_list ready_at sent_before sent_to
  parts x = refl

  -- no transfer stands twice where none stands before itself
  apart : ((x : ℕ) → x < length list → stands (at list x) (take x list) ≡ false) → (x y : ℕ) → x < length list → y < length list → at list x ≡ at list y → x ≡ y
  apart fresh x y h k e = go (below_or_not x y) (below_or_not y x)
    where
      twice : (a b : ℕ) → a < b → b < length list → at list a ≡ at list b → ⊥
      twice a b l m e =
          true≢false (sym (place_stands (at list b) (take b list) (place_front list (at list b) b m (record { place = a; below = l; is = e }))) ∙ fresh b m)

      go : (x < y) ⊎ (y ≤ x) → (y < x) ⊎ (x ≤ y) → x ≡ y
      go (inl l) m = absurd (twice x y l k e)
      go (inr l) (inl m) = absurd (twice y x m h (sym e))
      go (inr l) (inr m) = omega arith

  -- as long as the plan, and each may follow
  pub follow_yes : length list ≡ length (transfers dead helpers)
      → ((x : ℕ) → x < length list → may_follow dead helpers (by_list (take x list)) (at list x) ≡ true) → may_run dead helpers list ≡ true
  follow_yes long each =
      tests_passed dead helpers list
      (all_stand s dead helpers R list (λ x h. (told x h).0.0) long (apart (λ x h. not-true _ (told x h).0.1)))
      (λ x h. planned_by_lists s dead helpers R (at list x) ∙ (told x h).0.0)
      (λ x h. (told x h).1)
    where
      told : (x : ℕ) → x < length list
          → ((in_plan dead helpers (at list x) ≡ true) × (not (stands (at list x) (take x list)) ≡ true)) × (ready_at dead helpers list x ≡ true)
      told x h =
          let w = both _ (ready_at dead helpers list x) (sym (parts x) ∙ each x h) in
          (both (in_plan dead helpers (at list x)) _ w.0, w.1)

  -- what may run is as long as the plan
  pub length_no : length list ≢ length (transfers dead helpers) → may_run dead helpers list ≡ false
  length_no d = go (true_or_false (may_run dead helpers list))
    where
      go : (may_run dead helpers list ≡ true) ⊎ (may_run dead helpers list ≡ false) → may_run dead helpers list ≡ false
      go (inl e) = absurd (d (yes_length s dead helpers R list (says dead helpers list e)))
      go (inr e) = e

  -- and each transfer of it may follow
  runs_follow : MayRun dead helpers list → (x : ℕ) → x < length list → follows x ≡ true
  runs_follow m x h = parts x ∙ ap₂ ◌&&◌ (ap₂ ◌&&◌ (runs_in s dead helpers R list m x h) (ap not (fresh (true_or_false (stands (at list x) (take x list)))))) ready
    where
      ready : ready_at dead helpers list x ≡ true
      ready = behind_ready dead helpers list x h (λ d j l. m.behind x j h d l)

      fresh : (stands (at list x) (take x list) ≡ true) ⊎ (stands (at list x) (take x list) ≡ false) → stands (at list x) (take x list) ≡ false
      fresh (inr e) = e
      fresh (inl e) =
          let w = front_place list (at list x) x h (stands_place (at list x) (take x list) e) in
          let p = m.planned x h in
          absurd (omega (arith, w.below, m.once p.place w.place x p.below (omega (arith, w.below)) h (w.is ∙ sym p.is) (sym p.is)))

  pub follow_no : (x : ℕ) → x < length list → may_follow dead helpers (by_list (take x list)) (at list x) ≡ false → may_run dead helpers list ≡ false
  follow_no x h d = go (true_or_false (may_run dead helpers list))
    where
      go : (may_run dead helpers list ≡ true) ⊎ (may_run dead helpers list ≡ false) → may_run dead helpers list ≡ false
      go (inl e) = absurd (true≢false (sym (runs_follow (says dead helpers list e) x h) ∙ d))
      go (inr e) = e

-- ---- the table

pub sent_none : Sent [] (replicate (most_nodes * most_nodes) false)
unfolding by_table by_list stands
sent_none = record {
  long = length-replicate (most_nodes * most_nodes) false;
  each = λ i j h k.
      get_or-replicate (most_nodes * most_nodes) (i * most_nodes + j) false false (omega arith)
      ∙ sym (ap not (eq-eqb _ 0 (times_none (between i j))));
}

-- a transfer more
stands_next : (t : Transfer) (list : List Transfer) (x : ℕ) → x < length list → stands t (take (x + 1) list) ≡ (same t (at list x) || stands t (take x list))
unfolding stands
stands_next t list x h = go (same t (at list x)) (times_next t list x h)
  where
    go : (b : Bool) → times t (take (x + 1) list) ≡ times t (take x list) + cond b 1 0
        → not (eqb (times t (take (x + 1) list)) 0) ≡ (b || not (eqb (times t (take x list)) 0))
    go true e = ap not (ne_eqb (times t (take (x + 1) list)) 0 (λ z. omega arith))
    go false e = ap (λ n. not (eqb n 0)) (let p : times t (take (x + 1) list) ≡ times t (take x list) = omega arith in p)

module _ (list : List Transfer) (x : ℕ) (h : x < length list) (table : List Bool) (S : Sent (take x list) table)
    (a : (at list x).sender < most_nodes) (b : (at list x).receiver < most_nodes) where
  abbrev i₀ : ℕ
  i₀ = (at list x).sender

  abbrev j₀ : ℕ
  j₀ = (at list x).receiver

  pub sent_more : Sent (take (x + 1) list) (set table ((at list x).sender * most_nodes + (at list x).receiver) true)
  unfolding by_table by_list
  sent_more = record {
    long = length-set table _ true ∙ S.long;
    each = λ i j k l. go i j k l (same (between i j) (at list x)) refl;
  }
    where
      go : (i j : ℕ) → i < most_nodes → j < most_nodes → (t : Bool) → same (between i j) (at list x) ≡ t
          → get_or (set table (i₀ * most_nodes + j₀) true) (i * most_nodes + j) false ≡ stands (between i j) (take (x + 1) list)
      go i j k l true e =
          let z = same_true (between i j) (at list x) e in
          ap₂ (λ u v. get_or (set table (i₀ * most_nodes + j₀) true) (u * most_nodes + v) false) (ap (λ t. t.sender) z) (ap (λ t. t.receiver) z)
          ∙ get_or-set_same table (i₀ * most_nodes + j₀) true false (omega (arith, S.long))
          ∙ sym (stands_next (between i j) list x h ∙ ap (λ c. c || stands (between i j) (take x list)) e)
      go i j k l false e =
          get_or-set_other table (i₀ * most_nodes + j₀) (i * most_nodes + j) true false
          (λ z. true≢false (sym (same_refl (between i j) (at list x) (ap₂ between (let p : i ≡ i₀ = omega arith in p) (let p : j ≡ j₀ = omega arith in p))) ∙ e))
          ∙ S.each i j k l
          ∙ sym (stands_next (between i j) list x h ∙ ap (λ c. c || stands (between i j) (take x list)) e)

-- the table says as much as the list

pub nodes_low : (n : ℕ) (list : List ℕ) → n ≤ most_nodes → rising 0 n list ≡ true → Nodes list
nodes_low n list l e j h = omega (arith, rising_below n list e j h)

member_low : (list : List ℕ) → Nodes list → (i : ℕ) → member i list ≡ true → i < most_nodes
member_low list low i m = let p = at_position list i m in omega (arith, low (position i list) p.0, p.1)

module _ (dead helpers : List ℕ) (low_dead : Nodes dead) (low_helpers : Nodes helpers) where
  -- the nodes of a planned transfer
  pub planned_low : (t : Transfer) → in_plan dead helpers t ≡ true → (t.sender < most_nodes) × (t.receiver < most_nodes)
  planned_low t e = let w = in_plan_lem dead helpers t e in (go w.1, member_low dead low_dead _ w.0)
    where
      go : (member t.sender helpers ≡ true) ⊎ ((member t.sender dead ≡ true) × (t.sender ≢ t.receiver)) → t.sender < most_nodes
      go (inl m) = member_low helpers low_helpers _ m
      go (inr v) = member_low dead low_dead _ v.0

  pub table_follow : (list : List Transfer) (table : List Bool) (t : Transfer) → Sent list table
      → may_follow dead helpers (by_table table) t ≡ may_follow dead helpers (by_list list) t
  unfolding may_follow sent_to
  table_follow list table t S = go (in_plan dead helpers t) refl
    where
      go : (b : Bool) → in_plan dead helpers t ≡ b
          → (b && not (by_table table t.sender t.receiver) && (not (member t.sender dead) || all (sent_to (by_table table) t.sender) helpers))
          ≡ (b && not (by_list list t.sender t.receiver) && (not (member t.sender dead) || all (sent_to (by_list list) t.sender) helpers))
      go false e = refl
      go true e =
          let w = planned_low t e in
          ap₂ (λ c d. true && not c && (not (member t.sender dead) || d)) (S.each _ _ w.0 w.1)
          (all_ext _ _ helpers (λ j l. S.each _ _ (low_helpers j l) w.0))

-- ---- one transfer, test by test

module _ (dead helpers : List ℕ) (sent : ℕ → ℕ → Bool) (t : Transfer) where
  pub follow_planned : may_follow dead helpers sent t ≡ true → in_plan dead helpers t ≡ true
  unfolding may_follow
  follow_planned e = (both (in_plan dead helpers t) _ (both _ (not (member t.sender dead) || all (sent_to sent t.sender) helpers) e).0).0

  pub follow_unplanned : in_plan dead helpers t ≡ false → may_follow dead helpers sent t ≡ false
  unfolding may_follow
  follow_unplanned e = rw e

  module _ (e : in_plan dead helpers t ≡ true) where
    pub follow_again : sent t.sender t.receiver ≡ true → may_follow dead helpers sent t ≡ false
    unfolding may_follow
    follow_again f = rw (e, f)

    module _ (f : sent t.sender t.receiver ≡ false) where
      pub follow_exchange : member t.sender dead ≡ true → may_follow dead helpers sent t ≡ all (sent_to sent t.sender) helpers
      unfolding may_follow
      follow_exchange d = rw (e, f, d)

      pub follow_message : member t.sender dead ≡ false → may_follow dead helpers sent t ≡ true
      unfolding may_follow
      follow_message d = rw (e, f, d)
