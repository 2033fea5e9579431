-- A list that may run, run by the calls of single nodes in its order, on an archive whose whole repair is accepted: no call turns back, and each
-- gives what running the list has.
use mathlib.Core.Path.{◌≡◌, refl, sym, ap, ap₂, subst, ◌∙◌}
use mathlib.Core.Logic.{◌≢◌, ◌⊎◌, inl, inr}
use mathlib.Core.Bool.{true, false, true≢false}
use mathlib.Core.List.{List, [], append-nil}
use Prim.Native.Nat.{ℕ, ◌*◌, ◌-◌, ◌<◌}
use native.Mathlib.Omega.{arith}
use borrow.Author.Tests.{eq-eqb}
use lib.ListN.{length, get_or, take}
use Rattle.lists.specs.Lists.{all, below, member, position, outside, piece}
use Rattle.lists.proofs.Tests.{cond_true, cond_false, at_all_below}
use Rattle.lists.proofs.Members.{member_of, at_position, rising_below}
use Rattle.lists.proofs.Flats.{flat_length, flat_piece, piece_length}
use Rattle.lists.proofs.Parts.{row_within}
use Rattle.shape.specs.declared.Shape.{Shape}
use Rattle.std.specs.Prelude.{Ok}
use Rattle.shape.specs.Shape.{size}
use Rattle.shape.specs.Refusals.{wrong_length, symbol_bad, Answer}
use Rattle.shape.proofs.Accepted.{Repairable, repair_accepted}
use Rattle.shape.proofs.Answers.{number_only, afterwards_done}
use Rattle.rows.specs.Rows.{Low}
use Rattle.code.specs.Code.{narrow}
use Rattle.transfers.specs.declared.Transfer.{Transfer}
use Rattle.classes.specs.Classes.{node, message_size}
use Rattle.classes.specs.Steps.{own_pair, own_pairs, exchange, exchange_to, exchanges, place, contents}
use Rattle.classes.specs.Whole.{from_helpers, from_dead}
use Rattle.classes.proofs.Dead.{Accepted, dead_of, node_position}
use Rattle.classes.proofs.Placing.{place_below, other_place}
use Rattle.classes.proofs.FirstStep.{exchange_length}
use Rattle.classes.proofs.Wire.{from_helpers_length, from_dead_length}
use Rattle.judging.specs.Refusals.{lists_refusal, message_refusal, first_step_refusal, second_step_refusal, node_good, whole_refusal}
use Rattle.judging.proofs.Judged.{lists_accepted, WholePassed, whole_passed}
use Rattle.repair.specs.Promises.{HelperMessage, FirstStep, SecondStep}
use Rattle.repair.proofs.Below.{pairs_low, from_helpers_low, from_helpers_helped, from_dead_low}
use Rattle.ordering.specs.Ordering.{pairs, at, order_refusal}
use Rattle.ordering.specs.Following.{in_plan}
use Rattle.ordering.specs.Running.{Delivery, helpers_heard, fellows_heard, sends, run, rebuilt}
use Rattle.ordering.proofs.InPlan.{in_plan_lem, dead_no_helper, runs_in}
use Rattle.ordering.proofs.Running.{sender_holds, helpers_end, fellows_end}
use Rattle.ordering.proofs.Promised.{Orderly, order_accepted}

module _ (s : Shape) (dead helpers numbers nodes : List ℕ) (room : ℕ) (z : order_refusal s dead helpers numbers ≡ 0)
    (w : whole_refusal narrow s dead helpers nodes room ≡ 0) where
  O : Orderly s dead helpers numbers
  O = order_accepted s dead helpers numbers z

  W : WholePassed s dead helpers nodes room
  W = whole_passed s dead helpers nodes room w

  R : Repairable s dead helpers
  R = repair_accepted s dead helpers O.listed.lists

  A : Accepted narrow s dead helpers
  A = lists_accepted s dead helpers false O.listed

  abbrev M : ℕ
  M = message_size s dead

  -- what has been delivered before place x
  abbrev log : ℕ → List Delivery
  log x = run narrow s dead helpers nodes [] (take x (pairs numbers))

  planned : (x : ℕ) → x < length (pairs numbers) → in_plan dead helpers (at (pairs numbers) x) ≡ true
  planned = runs_in s dead helpers R (pairs numbers) O.may

  receiver_dead : (x : ℕ) → x < length (pairs numbers) → member (at (pairs numbers) x).receiver dead ≡ true
  receiver_dead x h = (in_plan_lem dead helpers (at (pairs numbers) x) (planned x h)).0

  -- ---- a helper

  helper_long : (i : ℕ) → member i helpers ≡ true → length (piece (size s) i nodes) ≡ size s
  helper_long i m =
      let p = at_position helpers i m in
      let b : i < s.n = subst (λ j. j < s.n) p.1 (rising_below s.n helpers R.helpers_rising _ p.0) in
      piece_length (size s) i nodes (omega (arith, row_within s.n (size s) i b, W.long))

  helper_low : (i : ℕ) → member i helpers ≡ true → node_good narrow s nodes i ≡ true
  helper_low i m = let p = at_position helpers i m in subst (λ j. node_good narrow s nodes j ≡ true) p.1 (W.below (position i helpers) p.0)

  message_free : (i new : ℕ) → member i helpers ≡ true → member new dead ≡ true → message_refusal narrow s dead helpers i new (piece (size s) i nodes) M ≡ 0
  unfolding message_refusal lists_refusal outside wrong_length symbol_bad node_good
  message_free i new m d =
      rw (O.listed.shaped, O.listed.lists, m, d, O.listed.layers, eq-eqb _ _ (helper_long i m), eq-eqb M M refl, helper_low i m) refl

  -- a helper that is called at its turn
  pub helper_called : (x : ℕ) → x < length (pairs numbers) → member (at (pairs numbers) x).sender helpers ≡ true
      → (before after : List ℕ) (answer : Answer) → length before ≡ message_size s dead
      → HelperMessage s dead helpers (at (pairs numbers) x).sender (at (pairs numbers) x).receiver (piece (size s) (at (pairs numbers) x).sender nodes) before after answer
      → (answer ≡ Ok tt) × (after ≡ sends narrow s dead helpers nodes (run narrow s dead helpers nodes [] (take x (pairs numbers))) (at (pairs numbers) x))
  unfolding sends
  helper_called x h m before after answer long p =
      let t = at (pairs numbers) x in
      let free = ap (message_refusal narrow s dead helpers t.sender t.receiver (piece (size s) t.sender nodes)) long ∙ message_free _ _ m (receiver_dead x h) in
      (number_only answer (Ok tt) (p.number ∙ free), p.message ∙ afterwards_done before _ _ free ∙ sym (cond_true _ _ _ m))

  -- ---- a dead node

  all_low : (xs : List ℕ) → Low narrow.modulus xs → all (below narrow.modulus) xs ≡ true
  all_low xs l = at_all_below narrow.modulus xs (λ j _. l.at j)

  first_free : (i : ℕ) → member i dead ≡ true
      → first_step_refusal narrow s dead helpers i (from_helpers narrow s dead helpers nodes (position i dead)) (2 * M) ((length dead - 1) * M) ≡ 0
  unfolding first_step_refusal lists_refusal outside wrong_length symbol_bad
  first_free i d =
      rw (
        O.listed.shaped,
        O.listed.lists,
        d,
        O.listed.layers,
        eq-eqb _ _ (from_helpers_length (dead_of A) narrow helpers nodes R.helpers_count (position i dead)),
        eq-eqb (2 * M) (2 * M) refl,
        eq-eqb ((length dead - 1) * M) ((length dead - 1) * M) refl,
        all_low _ (from_helpers_low s dead helpers nodes A (position i dead)),
      ) refl

  -- a first step on what all k+1 helpers have sent
  first_at : (i : ℕ) → member i dead ≡ true → (messages : List ℕ) → messages ≡ from_helpers narrow s dead helpers nodes (position i dead)
      → (own sums own_after sums_after : List ℕ) (answer : Answer) → length own ≡ 2 * M → length sums ≡ (length dead - 1) * M
      → FirstStep s dead helpers i messages own sums own_after sums_after answer
      → (answer ≡ Ok tt) × (own_after ≡ own_pairs narrow s dead helpers (position i dead) messages) × (sums_after ≡ exchanges narrow s dead helpers (position i dead) messages)
  first_at i d messages e own sums own_after sums_after answer long among p =
      let free =
      ap₂ (first_step_refusal narrow s dead helpers i messages) long among
      ∙ ap (λ y. first_step_refusal narrow s dead helpers i y (2 * M) ((length dead - 1) * M)) e ∙ first_free i d in
      (number_only answer (Ok tt) (p.number ∙ free), p.own ∙ afterwards_done own _ _ free, p.sent ∙ afterwards_done sums _ _ free)

  -- its message to rank v
  exchange_piece : (u v : ℕ) (messages : List ℕ) → u < length dead → v < length dead → v ≢ u
      → piece M (place u v) (exchanges narrow s dead helpers u messages) ≡ exchange narrow s dead helpers u messages (node dead v)
  unfolding exchanges exchange_to
  exchange_piece u v messages l m d =
      ap (piece M (place u v)) (sym (append-nil (exchanges narrow s dead helpers u messages)))
      ∙ flat_piece M (exchange_to narrow s dead helpers u messages) (length dead - 1) (λ j _. exchange_length narrow s dead helpers u messages _) [] (place u v)
      (place_below (length dead) u v l m d) 0
      ∙ ap (λ y. exchange narrow s dead helpers u messages (node dead y)) (other_place (length dead) u v l m d)

  -- the receiver is another
  receiver_other : (x : ℕ) → x < length (pairs numbers) → member (at (pairs numbers) x).sender dead ≡ true
      → position (at (pairs numbers) x).receiver dead ≢ position (at (pairs numbers) x).sender dead
  receiver_other x h d e = go (in_plan_lem dead helpers (at (pairs numbers) x) (planned x h)).1
    where
      t : Transfer
      t = at (pairs numbers) x

      go : (member t.sender helpers ≡ true) ⊎ ((member t.sender dead ≡ true) × (t.sender ≢ t.receiver)) → ⊥
      go (inl m) = true≢false (sym m ∙ dead_no_helper s dead helpers R t.sender d)
      go (inr v) = v.1 (sym (at_position dead t.sender d).1 ∙ ap (λ u. get_or dead u 0) (sym e) ∙ (at_position dead t.receiver (receiver_dead x h)).1)

  -- a dead node that is called at its turn, with what the helpers have sent to it by then
  pub first_called : (x : ℕ) → x < length (pairs numbers) → member (at (pairs numbers) x).sender dead ≡ true
      → (own sums own_after sums_after : List ℕ) (answer : Answer) → length own ≡ 2 * message_size s dead → length sums ≡ (length dead - 1) * message_size s dead
      → FirstStep s dead helpers (at (pairs numbers) x).sender
      (helpers_heard helpers (run narrow s dead helpers nodes [] (take x (pairs numbers))) (at (pairs numbers) x).sender) own sums own_after sums_after answer
      → (answer ≡ Ok tt)
      × (piece (message_size s dead) (place (position (at (pairs numbers) x).sender dead) (position (at (pairs numbers) x).receiver dead)) sums_after
      ≡ sends narrow s dead helpers nodes (run narrow s dead helpers nodes [] (take x (pairs numbers))) (at (pairs numbers) x))
  unfolding sends node
  first_called x h d own sums own_after sums_after answer long among p =
      let t = at (pairs numbers) x in
      let from = at_position dead t.sender d in
      let to = at_position dead t.receiver (receiver_dead x h) in
      let f = first_at t.sender d _ (sender_holds narrow s dead helpers nodes R (pairs numbers) O.may x h d) own sums own_after sums_after answer long among p in (
        f.0,
        ap (piece M (place (position t.sender dead) (position t.receiver dead))) f.2
            ∙ exchange_piece (position t.sender dead) (position t.receiver dead) (helpers_heard helpers (log x) t.sender) from.0 to.0 (receiver_other x h d)
            ∙ ap (exchange narrow s dead helpers (position t.sender dead) (helpers_heard helpers (log x) t.sender)) to.1
            ∙ sym (cond_false _ _ _ (dead_no_helper s dead helpers R t.sender d)),
      )

  -- ---- in the end

  abbrev end : List Delivery
  end = run narrow s dead helpers nodes [] (pairs numbers)

  rank_dead : (u : ℕ) → u < length dead → member (node dead u) dead ≡ true
  unfolding node
  rank_dead u l = member_of dead u l

  -- a dead node's first step in the end, whether it has sent or, alone, has nobody to send to: its own pairs
  pub own_called : (u : ℕ) → u < length dead → (own sums own_after sums_after : List ℕ) (answer : Answer) → length own ≡ 2 * message_size s dead
      → length sums ≡ (length dead - 1) * message_size s dead
      → FirstStep s dead helpers (node dead u) (helpers_heard helpers (run narrow s dead helpers nodes [] (pairs numbers)) (node dead u)) own sums own_after sums_after answer
      → (answer ≡ Ok tt)
      × (own_after ≡ own_pairs narrow s dead helpers u (helpers_heard helpers (run narrow s dead helpers nodes [] (pairs numbers)) (node dead u)))
  own_called u l own sums own_after sums_after answer long among p =
      let back = node_position (dead_of A) u l in
      let all = helpers_end narrow s dead helpers nodes R (pairs numbers) O.may u l ∙ ap (from_helpers narrow s dead helpers nodes) (sym back) in
      let f = first_at (node dead u) (rank_dead u l) _ all own sums own_after sums_after answer long among p in
      (f.0, f.1 ∙ ap (λ v. own_pairs narrow s dead helpers v (helpers_heard helpers end (node dead u))) back)

  own_length : (u : ℕ) → length (own_pairs narrow s dead helpers u (from_helpers narrow s dead helpers nodes u)) ≡ 2 * M
  unfolding own_pairs own_pair
  own_length u = flat_length 2 (own_pair narrow s dead helpers u (from_helpers narrow s dead helpers nodes u)) M (λ x _. refl) ∙ omega arith

  second_free : (u : ℕ) → u < length dead
      → second_step_refusal narrow s dead helpers (node dead u) (own_pairs narrow s dead helpers u (from_helpers narrow s dead helpers nodes u))
      (from_dead narrow s dead helpers nodes u) (size s)
      ≡ 0
  unfolding second_step_refusal lists_refusal outside wrong_length symbol_bad
  second_free u l =
      rw (
        O.listed.shaped,
        O.listed.lists,
        rank_dead u l,
        O.listed.layers,
        eq-eqb _ _ (own_length u),
        eq-eqb _ _ (from_dead_length narrow s dead helpers nodes u),
        eq-eqb (size s) (size s) refl,
        all_low _ (pairs_low s dead helpers A u _ (from_helpers_helped s dead helpers nodes A u l)),
        all_low _ (from_dead_low s dead helpers nodes A u l),
      ) refl

  -- a dead node that is called at the end, with its own pairs and what its fellows have sent to it
  pub second_called : (u : ℕ) → u < length dead → (before after : List ℕ) (answer : Answer) → length before ≡ size s
      → SecondStep s dead helpers (node dead u)
      (own_pairs narrow s dead helpers u (helpers_heard helpers (run narrow s dead helpers nodes [] (pairs numbers)) (node dead u)))
      (fellows_heard dead (run narrow s dead helpers nodes [] (pairs numbers)) u) before after answer
      → (answer ≡ Ok tt) × (after ≡ rebuilt narrow s dead helpers nodes (run narrow s dead helpers nodes [] (pairs numbers)) u)
  unfolding rebuilt
  second_called u l before after answer long p =
      let free =
      ap (second_step_refusal narrow s dead helpers (node dead u) _ _) long
      ∙ ap₂ (λ a b. second_step_refusal narrow s dead helpers (node dead u) (own_pairs narrow s dead helpers u a) b (size s))
      (helpers_end narrow s dead helpers nodes R (pairs numbers) O.may u l) (fellows_end narrow s dead helpers nodes R (pairs numbers) O.may u l)
      ∙ second_free u l in (
        number_only answer (Ok tt) (p.number ∙ free),
        p.symbols ∙ afterwards_done before _ _ free
            ∙ ap (λ y. contents narrow s dead y (own_pairs narrow s dead helpers u (helpers_heard helpers end (node dead u))) (fellows_heard dead end u)) (node_position (dead_of A) u l),
      )
