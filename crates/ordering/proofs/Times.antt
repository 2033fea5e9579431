-- How often a transfer stands in a list, and where; so what `may_run` says.
use mathlib.Core.Path.{◌≡◌, refl, sym, ap, ap₂, subst, ◌∙◌}
use mathlib.Core.Logic.{◌≢◌}
use mathlib.Core.Bool.{Bool, true, false, not, ◌&&◌, ◌||◌, cond}
use mathlib.Core.List.{List, [], ◌∷◌, ◌++◌}
use Prim.Native.Nat.{ℕ, zero, suc, ◌+◌, ◌≤◌, ◌<◌}
use native.Mathlib.Numerals.{add-one}
use native.Mathlib.Decide.{ℕ_discrete}
use native.Mathlib.Omega.{arith}
use borrow.Author.Tests.{eqb-true, eqb-false, eq-eqb, ne_eqb, not-true}
use lib.Dec.{eqb}
use lib.ListN.{length, get_or, take}
use lib.Seq.{get_or-take, length-take-le, take-suc}
use Rattle.lists.specs.Lists.{all, member}
use Rattle.lists.proofs.Tests.{both, all_at, at_all, every_at, at_every}
use Rattle.lists.proofs.Ranges.{every, each}
use Rattle.transfers.specs.declared.Transfer.{Transfer}
use Rattle.transfers.specs.Plan.{transfers, no_transfer}
use Rattle.ordering.specs.Ordering.{between, at, same, times, stands, once_in, planned_in, sent_before, ready_at, may_run, Place, MayRun}

pub same_true : (t u : Transfer) → same t u ≡ true → t ≡ u
unfolding same
same_true t u e =
    let w = both (eqb t.sender u.sender) (eqb t.receiver u.receiver) e in
    ap₂ between (eqb-true t.sender u.sender w.0) (eqb-true t.receiver u.receiver w.1)

pub same_refl : (t u : Transfer) → t ≡ u → same t u ≡ true
unfolding same
same_refl t u e = ap₂ ◌&&◌ (eq-eqb _ _ (ap (λ x. x.sender) e)) (eq-eqb _ _ (ap (λ x. x.receiver) e))

-- ---- times and places

module _ (t : Transfer) where
  pub times_none : times t [] ≡ 0
  unfolding times
  times_none = refl

  times_head : (u : Transfer) (us : List Transfer) → t ≡ u → times t (u ∷ us) ≡ 1 + times t us
  unfolding times
  times_head u us e = ap (λ b. cond b 1 0 + times t us) (same_refl t u e)

  times_tail : (u : Transfer) (us : List Transfer) → same t u ≡ false → times t (u ∷ us) ≡ times t us
  unfolding times
  times_tail u us e = ap (λ b. cond b 1 0 + times t us) e ∙ omega arith

  times_more : (u : Transfer) (us : List Transfer) → times t us ≤ times t (u ∷ us)
  unfolding times
  times_more u us = omega arith

  pub place_times : (us : List Transfer) (x : ℕ) → x < length us → at us x ≡ t → 0 < times t us
  unfolding at
  place_times [] x h e = absurd (omega arith)
  place_times (u ∷ us) zero h e = omega (arith, times_head u us (sym e))
  place_times (u ∷ us) (suc x) h e = omega (arith, times_more u us, place_times us x (omega arith) e)

  pub times_place : (us : List Transfer) → times t us ≢ 0 → Place us t (length us)
  unfolding at
  times_place [] h = absurd (h times_none)
  times_place (u ∷ us) h = go (same t u) refl (times_place us)
    where
      go : (b : Bool) → same t u ≡ b → (times t us ≢ 0 → Place us t (length us)) → Place (u ∷ us) t (suc (length us))
      go true e ih = record { place = 0; below = omega arith; is = sym (same_true t u e) }
      go false e ih = let w = ih (λ z. h (times_tail u us e ∙ z)) in record { place = suc w.place; below = omega (arith, w.below); is = w.is }

  pub times_once : (us : List Transfer) → times t us ≤ 1 → (x y : ℕ) → x < length us → y < length us → at us x ≡ t → at us y ≡ t → x ≡ y
  unfolding at
  times_once [] m x y h k e f = absurd (omega arith)
  times_once (u ∷ us) m zero zero h k e f = refl
  times_once (u ∷ us) m zero (suc y) h k e f = absurd (omega (arith, times_head u us (sym e), place_times us y (omega arith) f))
  times_once (u ∷ us) m (suc x) zero h k e f = absurd (omega (arith, times_head u us (sym f), place_times us x (omega arith) e))
  times_once (u ∷ us) m (suc x) (suc y) h k e f = ap suc (times_once us (omega (arith, times_more u us)) x y (omega arith) (omega arith) e f)

  pub once_times : (us : List Transfer) → ((x y : ℕ) → x < length us → y < length us → at us x ≡ t → at us y ≡ t → x ≡ y) → times t us ≤ 1
  unfolding at
  once_times [] h = omega (arith, times_none)
  once_times (u ∷ us) h = go (same t u) refl (once_times us (λ x y k l e f. let z = h (suc x) (suc y) (omega arith) (omega arith) e f in omega arith))
    where
      go : (b : Bool) → same t u ≡ b → times t us ≤ 1 → times t (u ∷ us) ≤ 1
      go false e ih = omega (arith, times_tail u us e)
      go true e ih = last (ℕ_discrete (times t us) 0)
        where
          last : Dec (times t us ≡ 0) → times t (u ∷ us) ≤ 1
          last (yes z) = omega (arith, times_head u us (same_true t u e))
          last (no d) = let w = times_place us d in absurd (omega (arith, h 0 (suc w.place) (omega arith) (omega (arith, w.below)) (sym (same_true t u e)) w.is))

  pub stands_place : (us : List Transfer) → stands t us ≡ true → Place us t (length us)
  unfolding stands
  stands_place us e = times_place us (eqb-false _ 0 (not-true _ e))

  pub place_stands : (us : List Transfer) → Place us t (length us) → stands t us ≡ true
  unfolding stands
  place_stands us w = ap not (ne_eqb (times t us) 0 (λ z. omega (arith, place_times us w.place w.below w.is)))

-- ---- what a yes says

pub front_place : (list : List Transfer) (t : Transfer) (x : ℕ) → x < length list → Place (take x list) t (length (take x list)) → Place list t x
unfolding at
front_place list t x h w =
    let l : w.place < x = omega (arith, w.below, length-take-le x list (omega arith)) in
    record { place = w.place; below = l; is = sym (get_or-take x list w.place _ l) ∙ w.is }

pub place_front : (list : List Transfer) (t : Transfer) (x : ℕ) → x < length list → Place list t x → Place (take x list) t (length (take x list))
unfolding at
place_front list t x h w =
    record { place = w.place; below = omega (arith, w.below, length-take-le x list (omega arith)); is = get_or-take x list w.place _ w.below ∙ w.is }

module _ (dead helpers : List ℕ) (list : List Transfer) where
  abbrev plan : List Transfer
  plan = transfers dead helpers

  abbrev pub Behind : ℕ → Type 0
  Behind x = member (at list x).sender dead ≡ true → (j : ℕ) → j < length helpers → Place list (between (get_or helpers j 0) (at list x).sender) x

  abbrev before : ℕ → ℕ → Bool
  before x = sent_before list x (at list x).sender

  ready_behind : (x : ℕ) → x < length list → ready_at dead helpers list x ≡ true → Behind x
  unfolding ready_at sent_before
  ready_behind x h e m j l =
      front_place list _ x h (stands_place _ (take x list) (all_at (before x) helpers (subst (λ b. (not b || all (before x) helpers) ≡ true) m e) j l))

  pub behind_ready : (x : ℕ) → x < length list → Behind x → ready_at dead helpers list x ≡ true
  unfolding ready_at sent_before
  behind_ready x h b = go (member (at list x).sender dead) refl
    where
      go : (m : Bool) → member (at list x).sender dead ≡ m → (not m || all (before x) helpers) ≡ true
      go false m = refl
      go true m = at_all (before x) helpers (λ j l. place_stands _ (take x list) (place_front list _ x h (b m j l)))

  pub says : may_run dead helpers list ≡ true → MayRun dead helpers list
  unfolding may_run once_in planned_in at
  says e =
      let w = both (all (once_in list) plan && all (planned_in plan) list) _ e in
      let v = both (all (once_in list) plan) _ w.0 in
      let one : (e : ℕ) → e < length plan → times (at plan e) list ≡ 1 = λ e h. eqb-true _ 1 (every_at (once_in list) no_transfer plan v.0 e h) in
      record {
        whole = λ e h. times_place (at plan e) list (λ z. omega (arith, one e h));
        once = λ e x y h k l. times_once (at plan e) list (omega (arith, one e h)) x y k l;
        planned = λ x h. stands_place (at list x) plan (every_at (planned_in plan) no_transfer list v.1 x h);
        behind = λ x j h m l. ready_behind x h (every (ready_at dead helpers list) (length list) w.1 x h) m j l;
      }

  -- each transfer of the plan is there once
  pub once_of : MayRun dead helpers list → (e : ℕ) → e < length (transfers dead helpers) → times (at (transfers dead helpers) e) list ≡ 1
  once_of m e h =
      let w = m.whole e h in omega (arith, once_times (at plan e) list (λ x y k l. m.once e x y h k l), place_times (at plan e) list w.place w.below w.is)

  -- the three tests passed are a yes
  pub tests_passed : ((e : ℕ) → e < length (transfers dead helpers) → times (at (transfers dead helpers) e) list ≡ 1)
      → ((x : ℕ) → x < length list → stands (at list x) (transfers dead helpers) ≡ true)
      → ((x : ℕ) → x < length list → ready_at dead helpers list x ≡ true)
      → may_run dead helpers list ≡ true
  unfolding may_run once_in planned_in at
  tests_passed one planned ready =
      ap₂ ◌&&◌
      (ap₂ ◌&&◌ (at_every (once_in list) no_transfer plan (λ e h. eq-eqb _ 1 (one e h))) (at_every (planned_in plan) no_transfer list planned))
      (each (ready_at dead helpers list) (length list) ready)

  pub said : MayRun dead helpers list → may_run dead helpers list ≡ true
  said m =
      tests_passed (once_of m) (λ x h. place_stands (at list x) plan (m.planned x h))
      (λ x h. behind_ready x h (λ d j l. m.behind x j h d l))

-- ---- for a program: a count that goes place by place

times_append : (t : Transfer) (xs ys : List Transfer) → times t (xs ++ ys) ≡ times t xs + times t ys
unfolding times
times_append t [] ys = omega arith
times_append t (x ∷ xs) ys = omega (arith, times_append t xs ys)

pub times_next : (t : Transfer) (list : List Transfer) (x : ℕ) → x < length list → times t (take (x + 1) list) ≡ times t (take x list) + cond (same t (at list x)) 1 0
unfolding at
times_next t list x h =
    ap (λ y. times t (take y list)) (add-one x) ∙ ap (times t) (take-suc list x no_transfer h) ∙ times_append t (take x list) (get_or list x no_transfer ∷ [])
    ∙ ap (λ y. times t (take x list) + y) (single (get_or list x no_transfer))
  where
    single : (u : Transfer) → times t (u ∷ []) ≡ cond (same t u) 1 0
    single u = unfold times in omega arith
