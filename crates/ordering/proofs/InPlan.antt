-- The plan: which transfers are in it, each of them once; and that it may run in its own order.
use mathlib.Core.Path.{◌≡◌, refl, sym, ap, ap₂, subst, ◌∙◌}
use mathlib.Core.Logic.{◌≢◌, ◌⊎◌, inl, inr}
use mathlib.Core.Bool.{Bool, true, false, true≢false, not, ◌&&◌, ◌||◌}
use mathlib.Core.List.{List}
use Prim.Native.Nat.{ℕ, ◌+◌, ◌*◌, ◌-◌, ◌/◌, ◌%◌, ◌<◌, ◌≤◌}
use native.Mathlib.Omega.{arith}
use borrow.Author.Tests.{eqb-false, ne_eqb, not-true}
use lib.Arith.{digits_lt}
use lib.Dec.{eqb}
use lib.ListN.{length, get_or}
use Rattle.lists.specs.Lists.{member, position}
use Rattle.lists.proofs.Tests.{both, below_or_not, true_or_false}
use Rattle.lists.proofs.Members.{member_of, at_position, rising_distinct}
use Rattle.lists.proofs.Places.{place_of}
use Rattle.shape.specs.declared.Shape.{Shape}
use Rattle.shape.proofs.Accepted.{Repairable}
use Rattle.classes.specs.Classes.{node}
use Rattle.classes.specs.Steps.{other_rank, place}
use Rattle.classes.proofs.Placing.{place_below, other_place, other_is}
use Rattle.transfers.specs.declared.Transfer.{Transfer}
use Rattle.transfers.specs.Plan.{helper_transfer, dead_transfer, transfers, no_transfer}
use Rattle.transfers.proofs.Transfers.{transfers_length, helper_to, dead_to, transfer_first, transfer_second}
use Rattle.ordering.specs.Ordering.{between, at, stands, may_run, Place, MayRun}
use Rattle.ordering.specs.Following.{in_plan}
use Rattle.ordering.proofs.Times.{stands_place, place_stands, said}

-- what the lists say of a transfer that is in the plan: a helper's message to a dead node, or a dead node's to another
pub in_plan_lem : (dead helpers : List ℕ) (t : Transfer) → in_plan dead helpers t ≡ true
    → (member t.receiver dead ≡ true) × ((member t.sender helpers ≡ true) ⊎ ((member t.sender dead ≡ true) × (t.sender ≢ t.receiver)))
unfolding in_plan
in_plan_lem dead helpers t e = let w = both (member t.receiver dead) _ e in (w.0, go (true_or_false (member t.sender helpers)) w.1)
  where
    fellow : Bool
    fellow = member t.sender dead && not (eqb t.sender t.receiver)

    go : (member t.sender helpers ≡ true) ⊎ (member t.sender helpers ≡ false) → (member t.sender helpers || fellow) ≡ true
        → (member t.sender helpers ≡ true) ⊎ ((member t.sender dead ≡ true) × (t.sender ≢ t.receiver))
    go (inl m) f = inl m
    go (inr m) f = let v = both (member t.sender dead) _ (ap (λ b. b || fellow) (sym m) ∙ f) in inr (v.0, eqb-false _ _ (not-true _ v.1))

module _ (s : Shape) (dead helpers : List ℕ) (R : Repairable s dead helpers) where
  abbrev h : ℕ
  h = length dead

  abbrev K : ℕ
  K = length helpers

  abbrev plan : List Transfer
  plan = transfers dead helpers

  -- a dead node is no helper
  pub dead_no_helper : (i : ℕ) → member i dead ≡ true → member i helpers ≡ false
  dead_no_helper i d = go (true_or_false (member i helpers))
    where
      go : (member i helpers ≡ true) ⊎ (member i helpers ≡ false) → member i helpers ≡ false
      go (inl e) = let p = at_position dead i d in let q = at_position helpers i e in absurd (R.apart (position i dead) (position i helpers) p.0 q.0 (p.1 ∙ sym q.1))
      go (inr e) = e

  -- ---- the transfers by their ranks

  -- what stands at a place of the plan: a helper's message, or an exchange
  data Kind (x : ℕ) : Type 0 where
    message : (u j : ℕ) → u < h → j < K → x ≡ u * K + j → at plan x ≡ between (get_or helpers j 0) (node dead u) → Kind x
    exchanged : (u j : ℕ) → u < h → j < h - 1 → x ≡ h * K + (u * (h - 1) + j) → at plan x ≡ between (node dead (other_rank u j)) (node dead u) → Kind x

  kind : (x : ℕ) → x < length plan → Kind x
  unfolding at helper_transfer dead_transfer
  kind x l = go (below_or_not x (h * K))
    where
      go : (x < h * K) ⊎ (h * K ≤ x) → Kind x
      go (inl b) = let p = place_of h K x b in message (x / K) (x % K) p.row p.place (sym p.whole) (transfer_first dead helpers x no_transfer b)
      go (inr b) =
          let y = x - h * K in
          let e : x ≡ h * K + y = omega arith in
          let m : y < h * (h - 1) = omega (arith, transfers_length dead helpers) in
          let p = place_of h (h - 1) y m in
          exchanged (y / (h - 1)) (y % (h - 1)) p.row p.place (e ∙ ap (λ z. h * K + z) (sym p.whole)) (transfer_second dead helpers x y no_transfer e m)

  node_same : (u v : ℕ) → u < h → v < h → node dead u ≡ node dead v → u ≡ v
  unfolding node
  node_same u v l m e = rising_distinct s.n dead R.dead_rising u v l m e

  -- a dead node's transfer is no helper's
  apart : (u j : ℕ) → u < h → j < K → get_or helpers j 0 ≡ node dead u → ⊥
  unfolding node
  apart u j l m e = R.apart u j l m (sym e)

  -- each transfer stands in the plan once
  pub plan_once : (x y : ℕ) → x < length (transfers dead helpers) → y < length (transfers dead helpers)
      → at (transfers dead helpers) x ≡ at (transfers dead helpers) y → x ≡ y
  plan_once x y l m e = go (kind x l) (kind y m)
    where
      go : Kind x → Kind y → x ≡ y
      go (message u j a b p q) (message v i c d r t) =
          let f : between (get_or helpers j 0) (node dead u) ≡ between (get_or helpers i 0) (node dead v) = sym q ∙ e ∙ t in
          p ∙ ap₂ (λ z w. z * K + w) (node_same u v a c (ap (λ z. z.receiver) f)) (rising_distinct s.n helpers R.helpers_rising j i b d (ap (λ z. z.sender) f)) ∙ sym r
      go (message u j a b p q) (exchanged v i c d r t) = absurd (apart (other_rank v i) j (other_is h v i c d).0 b (ap (λ z. z.sender) (sym q ∙ e ∙ t)))
      go (exchanged u j a b p q) (message v i c d r t) = absurd (apart (other_rank u j) i (other_is h u j a b).0 d (ap (λ z. z.sender) (sym t ∙ sym e ∙ q)))
      go (exchanged u j a b p q) (exchanged v i c d r t) =
          let f : between (node dead (other_rank u j)) (node dead u) ≡ between (node dead (other_rank v i)) (node dead v) = sym q ∙ e ∙ t in
          let g : u ≡ v = node_same u v a c (ap (λ z. z.receiver) f) in
          let k : other_rank u j ≡ other_rank v i = node_same _ _ (other_is h u j a b).0 (other_is h v i c d).0 (ap (λ z. z.sender) f) in
          p ∙ ap₂ (λ z w. h * K + (z * (h - 1) + w)) g (sym (other_is h u j a b).2 ∙ ap₂ place g k ∙ (other_is h v i c d).2) ∙ sym r

  -- ---- the transfers by their nodes

  pub message_in : (u j : ℕ) → u < length dead → j < length helpers → in_plan dead helpers (between (get_or helpers j 0) (node dead u)) ≡ true
  unfolding in_plan node
  message_in u j l m = rw (member_of dead u l, member_of helpers j m) refl

  pub exchange_in : (u v : ℕ) → u < length dead → v < length dead → v ≢ u → in_plan dead helpers (between (node dead v) (node dead u)) ≡ true
  unfolding in_plan node
  exchange_in u v l m d =
      rw (
        member_of dead u l,
        dead_no_helper (get_or dead v 0) (member_of dead v m),
        member_of dead v m,
        ne_eqb (get_or dead v 0) (get_or dead u 0) (λ e. d (rising_distinct s.n dead R.dead_rising v u m l e)),
      ) refl

  pub place_in : (x : ℕ) → x < length (transfers dead helpers) → in_plan dead helpers (at (transfers dead helpers) x) ≡ true
  place_in x l = go (kind x l)
    where
      go : Kind x → in_plan dead helpers (at plan x) ≡ true
      go (message u j a b p q) = ap (in_plan dead helpers) q ∙ message_in u j a b
      go (exchanged u j a b p q) = ap (in_plan dead helpers) q ∙ exchange_in u (other_rank u j) a (other_is h u j a b).0 (other_is h u j a b).1

  -- what stands in a list that may run
  pub runs_in : (list : List Transfer) → MayRun dead helpers list → (x : ℕ) → x < length list → in_plan dead helpers (at list x) ≡ true
  runs_in list m x h = let w = m.planned x h in sym (ap (in_plan dead helpers) w.is) ∙ place_in w.place w.below

  message_place : (u j : ℕ) → u < h → j < K → Place plan (between (get_or helpers j 0) (node dead u)) (h * K)
  unfolding at helper_transfer
  message_place u j l m = record { place = u * K + j; below = digits_lt l m; is = helper_to dead helpers u j no_transfer l m }

  exchange_place : (u v : ℕ) → u < h → v < h → v ≢ u → Place plan (between (node dead v) (node dead u)) (length plan)
  unfolding at dead_transfer
  exchange_place u v l m d =
      let b = place_below h u v l m d in
      record {
        place = h * K + (u * (h - 1) + place u v);
        below = omega (arith, transfers_length dead helpers, digits_lt l b);
        is = dead_to dead helpers u (place u v) no_transfer l b ∙ ap (λ w. between (node dead w) (node dead u)) (other_place h u v l m d);
      }

  widen : (t : Transfer) → Place plan t (h * K) → Place plan t (length plan)
  widen t w = record { place = w.place; below = omega (arith, w.below, transfers_length dead helpers); is = w.is }

  -- a dead node by its rank
  record Rank (i : ℕ) : Type 0 where
    rank : ℕ
    low : rank < h
    is : node dead rank ≡ i

  rank_of : (i : ℕ) → member i dead ≡ true → Rank i
  unfolding node
  rank_of i m = let p = at_position dead i m in record { rank = position i dead; low = p.0; is = p.1 }

  pub in_place : (t : Transfer) → in_plan dead helpers t ≡ true → Place (transfers dead helpers) t (length (transfers dead helpers))
  in_place t e = let w = in_plan_lem dead helpers t e in go (rank_of t.receiver w.0) w.1
    where
      go : Rank t.receiver → (member t.sender helpers ≡ true) ⊎ ((member t.sender dead ≡ true) × (t.sender ≢ t.receiver)) → Place plan t (length plan)
      go r (inl m) =
          let q = at_position helpers t.sender m in
          subst (λ z. Place plan z (length plan)) (ap₂ between q.1 r.is) (widen _ (message_place r.rank (position t.sender helpers) r.low q.0))
      go r (inr v) =
          let p = rank_of t.sender v.0 in
          subst (λ z. Place plan z (length plan)) (ap₂ between p.is r.is)
          (exchange_place r.rank p.rank r.low p.low (λ z. v.1 (sym p.is ∙ ap (node dead) z ∙ r.is)))

  -- for a program: the plan need not be searched
  pub planned_by_lists : (t : Transfer) → stands t (transfers dead helpers) ≡ in_plan dead helpers t
  planned_by_lists t = go (true_or_false (in_plan dead helpers t)) (true_or_false (stands t plan))
    where
      go : (in_plan dead helpers t ≡ true) ⊎ (in_plan dead helpers t ≡ false) → (stands t plan ≡ true) ⊎ (stands t plan ≡ false) → stands t plan ≡ in_plan dead helpers t
      go (inl e) f = place_stands t plan (in_place t e) ∙ sym e
      go (inr e) (inr f) = f ∙ sym e
      go (inr e) (inl f) = let w = stands_place t plan f in f ∙ sym (sym (ap (in_plan dead helpers) w.is) ∙ place_in w.place w.below)

  -- ---- the plan may run in its own order

  behind : (x j : ℕ) → x < length plan → member (at plan x).sender dead ≡ true → j < K → Place plan (between (get_or helpers j 0) (at plan x).sender) x
  behind x j l d m = go (kind x l)
    where
      go : Kind x → Place plan (between (get_or helpers j 0) (at plan x).sender) x
      go (message u i a b p q) =
          absurd (true≢false
          (sym (member_of helpers i b) ∙ ap (λ z. member z helpers) (ap (λ z. z.sender) (sym q)) ∙ dead_no_helper (at plan x).sender d))
      go (exchanged u i a b p q) =
          let w = message_place (other_rank u i) j (other_is h u i a b).0 m in
          record { place = w.place; below = omega (arith, w.below); is = w.is ∙ ap (between (get_or helpers j 0)) (ap (λ z. z.sender) (sym q)) }

  pub own_order : may_run dead helpers (transfers dead helpers) ≡ true
  own_order = said dead helpers plan (record {
    whole = λ e l. record { place = e; below = l; is = refl };
    once = λ e x y l m k p q. plan_once x y m k (p ∙ sym q);
    planned = λ x l. record { place = x; below = l; is = refl };
    behind = behind;
  })
