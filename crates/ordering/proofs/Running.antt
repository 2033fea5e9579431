-- A list that may run leaves the nodes as the whole repair does, for any nodes.
use mathlib.Core.Path.{◌≡◌, refl, sym, ap, ap₂, subst, ◌∙◌}
use mathlib.Core.Logic.{◌≢◌, ◌⊎◌, inl, inr}
use mathlib.Core.Bool.{Bool, true, false, cond, true≢false}
use mathlib.Core.List.{List, [], ◌∷◌, ◌++◌}
use Prim.Native.Nat.{ℕ, zero, suc, ◌*◌, ◌-◌, ◌/◌, ◌%◌, ◌≤◌, ◌<◌}
use native.Mathlib.Omega.{arith}
use lib.ListN.{length, get_or, take}
use lib.Seq.{take-suc, take-length}
use Rattle.lists.specs.Lists.{member, position, piece}
use Rattle.lists.proofs.Tests.{cond_true, cond_false}
use Rattle.lists.proofs.Tables.{tabulate_ext}
use Rattle.lists.proofs.Flats.{flat_ext}
use Rattle.lists.proofs.Members.{member_of, at_position, rising_position}
use Rattle.shape.specs.declared.Shape.{Shape}
use Rattle.shape.specs.Shape.{size}
use Rattle.shape.proofs.Accepted.{Repairable}
use Rattle.code.specs.Code.{Code}
use Rattle.classes.specs.Classes.{node}
use Rattle.classes.specs.Steps.{helper_message, own_pairs, exchange, other_rank, contents}
use Rattle.classes.specs.Whole.{from_helper, from_helpers, from_sender, from_dead, renewed, repaired_symbol, repaired}
use Rattle.classes.proofs.Placing.{other_is}
use Rattle.transfers.specs.declared.Transfer.{Transfer}
use Rattle.transfers.specs.Plan.{no_transfer}
use Rattle.ordering.specs.Ordering.{between, same, at, MayRun}
use Rattle.ordering.specs.Following.{in_plan}
use Rattle.ordering.specs.Running.{Delivery, heard, helper_heard, helpers_heard, fellow_heard, fellows_heard, sends, delivered, run, rebuilt, ran_symbol, ran}
use Rattle.ordering.proofs.Times.{same_true, same_refl}
use Rattle.ordering.proofs.InPlan.{in_plan_lem, dead_no_helper, message_in, exchange_in, in_place, runs_in}

module _ (c : Code) (s : Shape) (dead helpers nodes : List ℕ) (R : Repairable s dead helpers) (list : List Transfer) (M : MayRun dead helpers list) where
  abbrev rank : ℕ → ℕ
  rank i = position i dead

  -- what the whole repair sends
  abbrev due : Transfer → List ℕ
  due t =
      cond (member t.sender helpers) (helper_message c s dead (rank t.receiver) (piece (size s) t.sender nodes))
      (exchange c s dead helpers (rank t.sender) (from_helpers c s dead helpers nodes (rank t.sender)) t.receiver)

  -- the deliveries of the first x transfers
  after : ℕ → List Delivery
  after x = run c s dead helpers nodes [] (take x list)

  run_snoc : (log : List Delivery) (ts : List Transfer) (t : Transfer) → run c s dead helpers nodes log (ts ++ (t ∷ [])) ≡ delivered c s dead helpers nodes (run c s dead helpers nodes log ts) t
  unfolding run
  run_snoc log [] t = refl
  run_snoc log (u ∷ ts) t = run_snoc (delivered c s dead helpers nodes log u) ts t

  after_suc : (x : ℕ) → x < length list → after (suc x) ≡ delivered c s dead helpers nodes (after x) (at list x)
  unfolding after at
  after_suc x h = ap (run c s dead helpers nodes []) (take-suc list x no_transfer h) ∙ run_snoc [] (take x list) (get_or list x no_transfer)

  -- a node that has heard all its helpers
  all_heard : (log : List Delivery) (i : ℕ)
      → ((j : ℕ) → j < length helpers → heard log (between (get_or helpers j 0) i) ≡ due (between (get_or helpers j 0) i))
      → helpers_heard helpers log i ≡ from_helpers c s dead helpers nodes (rank i)
  unfolding helpers_heard helper_heard from_helpers from_helper
  all_heard log i h = flat_ext (length helpers) _ _ (λ j l. h j l ∙ cond_true _ _ (member (get_or helpers j 0) helpers) (member_of helpers j l))

  -- a sender of the plan that is no helper is dead
  sender_is : (t : Transfer) → in_plan dead helpers t ≡ true → member t.sender helpers ≡ false → member t.sender dead ≡ true
  sender_is t e f = go (in_plan_lem dead helpers t e).1
    where
      go : (member t.sender helpers ≡ true) ⊎ ((member t.sender dead ≡ true) × (t.sender ≢ t.receiver)) → member t.sender dead ≡ true
      go (inl m) = absurd (true≢false (sym m ∙ f))
      go (inr v) = v.0

  -- x transfers in, what has been sent is what the whole repair sends
  abbrev Right : ℕ → Type 0
  Right x = (y : ℕ) → y < x → heard (after x) (at list y) ≡ due (at list y)

  -- a dead node that sends has heard all its helpers by then
  holds : (x : ℕ) → x < length list → Right x → member (at list x).sender dead ≡ true
      → helpers_heard helpers (after x) (at list x).sender ≡ from_helpers c s dead helpers nodes (rank (at list x).sender)
  holds x h right d =
      all_heard (after x) (at list x).sender
      (λ j l. let w = M.behind x j h d l in subst (λ t. heard (after x) t ≡ due t) w.is (right w.place w.below))

  sends_due : (x : ℕ) → x < length list → Right x → sends c s dead helpers nodes (after x) (at list x) ≡ due (at list x)
  unfolding sends
  sends_due x h right = go (member (at list x).sender helpers) refl
    where
      A : List ℕ
      A = helper_message c s dead (rank (at list x).receiver) (piece (size s) (at list x).sender nodes)

      B : List ℕ → List ℕ
      B messages = exchange c s dead helpers (rank (at list x).sender) messages (at list x).receiver

      go : (b : Bool) → member (at list x).sender helpers ≡ b
          → cond b A (B (helpers_heard helpers (after x) (at list x).sender))
          ≡ cond b A (B (from_helpers c s dead helpers nodes (rank (at list x).sender)))
      go true e = refl
      go false e = ap B (holds x h right (sender_is (at list x) (runs_in s dead helpers R list M x h) e))

  right_next : (x : ℕ) → x < length list → Right x → Right (suc x)
  unfolding delivered heard
  right_next x h right y l = ap (λ log. heard log (at list y)) (after_suc x h) ∙ go (same (at list y) (at list x)) refl
    where
      go : (b : Bool) → same (at list y) (at list x) ≡ b → cond b (sends c s dead helpers nodes (after x) (at list x)) (heard (after x) (at list y)) ≡ due (at list y)
      go true e = sends_due x h right ∙ ap due (sym (same_true (at list y) (at list x) e))
      go false e = right y (omega (arith, apart))
        where
          apart : y ≢ x
          apart z = true≢false (sym (same_refl (at list y) (at list x) (ap (at list) z)) ∙ e)

  right_at : (x : ℕ) → x ≤ length list → Right x
  right_at zero h = λ y l. absurd (omega arith)
  right_at (suc x) h = right_next x h (right_at x (omega arith))

  -- when a dead node sends, it holds the messages of all k+1 helpers to it, as a whole repair has them
  pub sender_holds : (x : ℕ) → x < length list → member (at list x).sender dead ≡ true
      → helpers_heard helpers (run c s dead helpers nodes [] (take x list)) (at list x).sender ≡ from_helpers c s dead helpers nodes (position (at list x).sender dead)
  unfolding after
  sender_holds x h = holds x h (right_at x (omega arith))

  -- in the end every transfer of the plan has been delivered as it is due
  abbrev end : List Delivery
  end = run c s dead helpers nodes [] list

  all_delivered : (t : Transfer) → in_plan dead helpers t ≡ true → heard end t ≡ due t
  unfolding after
  all_delivered t e =
      let p = in_place s dead helpers R t e in
      let w = M.whole p.place p.below in
      subst (λ t. heard end t ≡ due t) (w.is ∙ p.is)
      (subst (λ l. heard (run c s dead helpers nodes [] l) (at list w.place) ≡ due (at list w.place)) (take-length list) (right_at (length list) (omega arith) w.place w.below))

  -- ---- what rank u makes of it

  rank_node : (u : ℕ) → u < length dead → rank (node dead u) ≡ u
  unfolding node
  rank_node u h = rising_position s.n dead R.dead_rising u h

  node_dead : (u : ℕ) → u < length dead → member (node dead u) dead ≡ true
  unfolding node
  node_dead u h = member_of dead u h

  module _ (u : ℕ) (h : u < length dead) where
    pub helpers_end : helpers_heard helpers end (node dead u) ≡ from_helpers c s dead helpers nodes u
    helpers_end =
        all_heard end (node dead u) (λ j l. all_delivered (between (get_or helpers j 0) (node dead u)) (message_in s dead helpers R u j h l))
        ∙ ap (from_helpers c s dead helpers nodes) (rank_node u h)

    exchange_end : (v : ℕ) → v < length dead → v ≢ u
        → heard end (between (node dead v) (node dead u)) ≡ exchange c s dead helpers v (from_helpers c s dead helpers nodes v) (node dead u)
    exchange_end v l d =
        all_delivered (between (node dead v) (node dead u)) (exchange_in s dead helpers R u v h l d)
        ∙ cond_false _ _ (member (node dead v) helpers) (dead_no_helper s dead helpers R (node dead v) (node_dead v l))
        ∙ ap (λ w. exchange c s dead helpers w (from_helpers c s dead helpers nodes w) (node dead u)) (rank_node v l)

    pub fellows_end : fellows_heard dead end u ≡ from_dead c s dead helpers nodes u
    unfolding fellows_heard fellow_heard from_dead from_sender
    fellows_end = flat_ext (length dead - 1) _ _ (λ j l. let o = other_is (length dead) u j h l in exchange_end (other_rank u j) o.0 o.1)

    rebuilt_is : rebuilt c s dead helpers nodes end u ≡ renewed c s dead helpers nodes u
    unfolding rebuilt renewed
    rebuilt_is = ap₂ (λ a b. contents c s dead u (own_pairs c s dead helpers u a) b) helpers_end fellows_end

  pub ran_repairs : ran c s dead helpers nodes list ≡ repaired c s dead helpers nodes
  unfolding ran ran_symbol repaired repaired_symbol
  ran_repairs = tabulate_ext (s.n * size s) _ _ (λ e h. go e (member (e / size s) dead) refl)
    where
      go : (e : ℕ) (b : Bool) → member (e / size s) dead ≡ b
          → cond b (get_or (rebuilt c s dead helpers nodes end (rank (e / size s))) (e % size s) 0) (get_or nodes e 0)
          ≡ cond b (get_or (renewed c s dead helpers nodes (rank (e / size s))) (e % size s) 0) (get_or nodes e 0)
      go e true m = ap (λ z. get_or z (e % size s) 0) (rebuilt_is (rank (e / size s)) (at_position dead (e / size s) m).0)
      go e false m = refl
