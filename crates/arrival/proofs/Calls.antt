-- Calls one behind the other, refused ones too: what they keep up, and that where finishing then is not turned back it is the first step.
use mathlib.Core.Path.{◌≡◌, refl, sym, ap, ap₂, subst, ◌∙◌}
use mathlib.Core.Logic.{◌≢◌, ◌⊎◌, inl, inr}
use mathlib.Core.Bool.{Bool, true, false, ◌&&◌, ◌||◌, cond, true≢false}
use mathlib.Core.List.{List, [], ◌∷◌, ◌++◌, append-nil, append_assoc}
use Prim.Native.Nat.{ℕ, zero, suc, ◌+◌, ◌-◌, ◌*◌, ◌/◌, ◌%◌, ◌<◌}
use native.Mathlib.Decide.{ℕ_discrete}
use native.Mathlib.Nat.{mod-lt, mod-eq_of_lt, mod-add-mod}
use native.Mathlib.Omega.{arith}
use borrow.Author.Tests.{eq-eqb, ne_eqb}
use lib.Dec.{eqb}
use lib.ListN.{length, get_or}
use Rattle.lists.specs.Lists.{member, outside, position}
use Rattle.lists.specs.Sums.{sum_over}
use Rattle.lists.proofs.Tests.{cond_true, cond_false}
use Rattle.lists.proofs.Members.{member_of, at_position, rising_rises}
use Rattle.lists.proofs.Flats.{flat_length, flat_at}
use Rattle.lists.proofs.Places.{place_of}
use Rattle.shape.specs.declared.Shape.{Shape}
use Rattle.std.specs.Prelude.{Ok}
use Rattle.shape.specs.Refusals.{answer_number, afterwards}
use Rattle.shape.proofs.Answers.{number_only, afterwards_done}
use Rattle.code.specs.Code.{narrow}
use Rattle.classes.specs.Classes.{message_size}
use Rattle.classes.specs.Steps.{own_pairs, exchanges}
use Rattle.classes.proofs.Dead.{Accepted}
use Rattle.judging.specs.Refusals.{lists_refusal, first_step_refusal}
use Rattle.judging.proofs.Judged.{Listed, listed_passed, lists_accepted, inside}
use Rattle.arrival.specs.Sums.{equations, kept_size, no_sums, term_at, added_to, kept_at, finished_pairs, finished_exchanges}
use Rattle.arrival.specs.Record.{heard_count, heard_nodes, nobody, noted, distinct, hear_refusal, finish_refusal}
use Rattle.arrival.specs.Promises.{Hears, Call, Calls, heard_by, heard_in, brought_by, brought_at, brought}
use Rattle.arrival.proofs.Sets.{Within, no_member, over_cons, over_ext, distinct_cons, none_distinct, within_fits, within_more, within_back, rises_distinct, distinct_more}
use Rattle.arrival.proofs.Records.{Recorded, caller_accepted, caller_right, caller_room, nodes_length, noted_length, noted_count, noted_nodes, nobody_length, nobody_count, nobody_nodes}
use Rattle.arrival.proofs.Judged.{HearPassed, hear_passed, hear_clear, FinishPassed, finish_passed, finish_clear, first_clear}
use Rattle.arrival.proofs.Sums.{none_length, none_at, none_kept, added_length, added_low, added_kept, Summed, summed_pairs, summed_exchanges}

-- ---- who was heard, and with what

-- the helpers heard, in the order heard
heard_of : List Call → List ℕ
heard_of [] = []
heard_of (x ∷ xs) = cond (eqb (answer_number x.answer) 0) (x.helper ∷ heard_of xs) (heard_of xs)

module _ (x : Call) (xs : List Call) where
  -- a call that was heard
  module _ (e : answer_number x.answer ≡ 0) where
    order_heard : heard_of (x ∷ xs) ≡ x.helper ∷ heard_of xs
    unfolding heard_of
    order_heard = cond_true _ _ _ (eq-eqb _ 0 e)

    heard_in_lem : (h : ℕ) → heard_in (x ∷ xs) h ≡ (eqb h x.helper || heard_in xs h)
    unfolding heard_in heard_by
    heard_in_lem h = rw (eq-eqb (answer_number x.answer) 0 e) (go (eqb h x.helper))
      where
        go : (t : Bool) → ((t && true) || heard_in xs h) ≡ (t || heard_in xs h)
        go true = refl
        go false = refl

    brought_heard : (h : ℕ) → h ≡ x.helper → brought_by (x ∷ xs) h ≡ x.message
    unfolding brought_by heard_by
    brought_heard h d = cond_true _ _ _ (ap₂ ◌&&◌ (eq-eqb h x.helper d) (eq-eqb _ 0 e))

  -- a call of another helper
  brought_other : (h : ℕ) → h ≢ x.helper → brought_by (x ∷ xs) h ≡ brought_by xs h
  unfolding brought_by heard_by
  brought_other h d = cond_false _ _ _ (ap (λ t. t && eqb (answer_number x.answer) 0) (ne_eqb h x.helper d))

  -- a call that was turned back
  module _ (e : answer_number x.answer ≢ 0) where
    order_refused : heard_of (x ∷ xs) ≡ heard_of xs
    unfolding heard_of
    order_refused = cond_false _ _ _ (ne_eqb _ 0 e)

    by_none : (h : ℕ) → heard_by h x ≡ false
    unfolding heard_by
    by_none h = rw (ne_eqb (answer_number x.answer) 0 e) (go (eqb h x.helper))
      where
        go : (t : Bool) → (t && false) ≡ false
        go true = refl
        go false = refl

    in_refused : (h : ℕ) → heard_in (x ∷ xs) h ≡ heard_in xs h
    unfolding heard_in
    in_refused h = ap (λ t. t || heard_in xs h) (by_none h)

    brought_refused : (h : ℕ) → brought_by (x ∷ xs) h ≡ brought_by xs h
    unfolding brought_by
    brought_refused h = cond_false _ _ _ (by_none h)

-- they are those heard in one of the calls
in_order : (calls : List Call) (h : ℕ) → heard_in calls h ≡ member h (heard_of calls)
unfolding heard_in heard_of member
in_order [] h = refl
in_order (x ∷ xs) h = go (ℕ_discrete (answer_number x.answer) 0) (in_order xs h)
  where
    go : Dec (answer_number x.answer ≡ 0) → heard_in xs h ≡ member h (heard_of xs) → heard_in (x ∷ xs) h ≡ member h (heard_of (x ∷ xs))
    go (yes e) ih = heard_in_lem x xs e h ∙ ap (λ t. eqb h x.helper || t) ih ∙ sym (ap (member h) (order_heard x xs e))
    go (no e) ih = in_refused x xs e h ∙ ih ∙ sym (ap (member h) (order_refused x xs e))

-- ---- one call

as_before : (number : ℕ) (before made : List ℕ) → number ≢ 0 → afterwards number before made ≡ before
unfolding afterwards
as_before zero before made d = absurd (d refl)
as_before (suc number) before made d = refl

module _ (s : Shape) (dead helpers : List ℕ) (new : ℕ) where
  abbrev u : ℕ
  u = position new dead

  abbrev q : ℕ
  q = narrow.modulus

  abbrev M : ℕ
  M = message_size s dead

  -- a call that is heard
  record Taken (sums heard : List ℕ) (x : Call) : Type 0 where
    number : answer_number x.answer ≡ 0
    passed : HearPassed s dead helpers new x.helper x.message sums heard
    adds : x.sums ≡ added_to narrow s dead (position new dead) x.helper x.message sums
    notes : x.heard ≡ noted x.helper heard

  -- and one that is turned back
  record Turned (sums heard : List ℕ) (x : Call) : Type 0 where
    number : answer_number x.answer ≢ 0
    same_sums : x.sums ≡ sums
    same_heard : x.heard ≡ heard

  either_way : (sums heard : List ℕ) (x : Call) → Hears s dead helpers new x.helper x.message sums x.sums heard x.heard x.answer
      → Taken sums heard x ⊎ Turned sums heard x
  either_way sums heard x w = go (ℕ_discrete (answer_number x.answer) 0)
    where
      go : Dec (answer_number x.answer ≡ 0) → Taken sums heard x ⊎ Turned sums heard x
      go (yes e) = let z = sym w.number ∙ e in inl (record {
        number = e;
        passed = hear_passed s dead helpers new x.helper x.message sums heard z;
        adds = w.added ∙ afterwards_done _ _ _ z;
        notes = w.record_after ∙ afterwards_done _ _ _ z;
      })
      go (no d) = let z : hear_refusal narrow s dead helpers new x.helper x.message sums heard ≢ 0 = λ e. d (w.number ∙ e) in inr (record {
        number = d;
        same_sums = w.added ∙ as_before _ _ _ z;
        same_heard = w.record_after ∙ as_before _ _ _ z;
      })

  module _ (sums heard : List ℕ) (x : Call) (T : Taken sums heard x) where
    room : heard_count heard + 1 < length heard
    room = caller_room s dead helpers heard x.helper T.passed.listed.lists T.passed.caller T.passed.heard_long

    nodes_then : heard_nodes x.heard ≡ heard_nodes heard ++ x.helper ∷ []
    nodes_then = ap heard_nodes T.notes ∙ noted_nodes x.helper heard room

  -- ---- what the calls keep up

  record Kept (sums heard : List ℕ) : Type 0 where
    sums_long : length sums ≡ kept_size s dead
    sums_low : (e : ℕ) → e < length sums → get_or sums e 0 < narrow.modulus
    heard_long : length heard ≡ s.k + 2
    recorded : Recorded (s.k + 1) helpers heard

  kept_first : Kept (no_sums s dead) (nobody s)
  kept_first = record {
    sums_long = none_length s dead;
    sums_low = λ e l. omega (arith, none_at s dead e (rw none_length at l));
    heard_long = nobody_length s;
    recorded = record {
      few = omega (arith, nobody_count s);
      once = ap distinct (nobody_nodes s) ∙ none_distinct;
      known = λ y m. absurd (no_member y (sym (ap (member y) (nobody_nodes s)) ∙ m));
    };
  }

  kept_next : (sums heard : List ℕ) (x : Call) → Taken sums heard x → Kept x.sums x.heard
  kept_next sums heard x T =
      let w = caller_accepted (s.k + 1) helpers heard x.helper T.passed.caller in
      let R = w.2 in
      let n = nodes_then sums heard x T in
      record {
        sums_long = ap length T.adds ∙ added_length narrow s dead u x.helper x.message sums;
        sums_low = rw T.adds (added_low narrow s dead u x.helper x.message sums (omega arith));
        heard_long = ap length T.notes ∙ noted_length x.helper heard ∙ T.passed.heard_long;
        recorded = record {
          few = rw T.notes (omega (arith, room sums heard x T, noted_count x.helper heard (omega (arith, room sums heard x T)), T.passed.heard_long));
          once = ap distinct n ∙ distinct_more x.helper (heard_nodes heard) R.once w.1;
          known = rw n (within_more x.helper (heard_nodes heard) helpers R.known w.0);
        };
      }

  kept_last : (calls : List Call) (sums heard last_sums last_heard : List ℕ) → Calls s dead helpers new sums heard calls last_sums last_heard → Kept sums heard
      → Kept last_sums last_heard
  kept_last [] sums heard last_sums last_heard w K = rw (w.0, w.1) K
  kept_last (x ∷ xs) sums heard last_sums last_heard w K =
      kept_last xs x.sums x.heard last_sums last_heard w.1 (go (either_way sums heard x w.0))
    where
      go : Taken sums heard x ⊎ Turned sums heard x → Kept x.sums x.heard
      go (inl T) = kept_next sums heard x T
      go (inr T) = rw (T.same_sums, T.same_heard) K

  -- the record names those heard, behind those that it named
  nodes_last : (calls : List Call) (sums heard last_sums last_heard : List ℕ) → Calls s dead helpers new sums heard calls last_sums last_heard
      → heard_nodes last_heard ≡ heard_nodes heard ++ heard_of calls
  unfolding heard_of
  nodes_last [] sums heard last_sums last_heard w = ap heard_nodes w.1 ∙ sym (append-nil (heard_nodes heard))
  nodes_last (x ∷ xs) sums heard last_sums last_heard w =
      nodes_last xs x.sums x.heard last_sums last_heard w.1 ∙ go (either_way sums heard x w.0)
    where
      go : Taken sums heard x ⊎ Turned sums heard x → heard_nodes x.heard ++ heard_of xs ≡ heard_nodes heard ++ heard_of (x ∷ xs)
      go (inl T) =
          ap (λ z. z ++ heard_of xs) (nodes_then sums heard x T) ∙ append_assoc (heard_nodes heard) (x.helper ∷ []) (heard_of xs)
          ∙ ap (λ z. heard_nodes heard ++ z) (sym (order_heard x xs T.number))
      go (inr T) = ap₂ (λ a b. heard_nodes a ++ b) T.same_heard (sym (order_refused x xs T.number))

  -- each known side has what those heard brought
  module _ (y t : ℕ) (h : y < message_size s dead) (l : t < equations s) where
    abbrev terms : List Call → ℕ → ℕ
    terms calls helper = term_at narrow s dead u helper (brought_by calls helper) y t

    sums_last : (calls : List Call) (sums heard last_sums last_heard : List ℕ) → Calls s dead helpers new sums heard calls last_sums last_heard
        → distinct (heard_of calls) ≡ true → kept_at s sums y t < q → kept_at s last_sums y t ≡ (kept_at s sums y t + sum_over (heard_of calls) (terms calls)) % q
    unfolding heard_of sum_over
    sums_last [] sums heard last_sums last_heard w d low =
        ap (λ z. kept_at s z y t) w.0 ∙ sym (mod-eq_of_lt low) ∙ ap (λ k. k % q) (omega arith)
    sums_last (x ∷ xs) sums heard last_sums last_heard w d low = go (either_way sums heard x w.0) (sums_last xs x.sums x.heard last_sums last_heard w.1)
      where
        go : Taken sums heard x ⊎ Turned sums heard x
            → (distinct (heard_of xs) ≡ true → kept_at s x.sums y t < q → kept_at s last_sums y t ≡ (kept_at s x.sums y t + sum_over (heard_of xs) (terms xs)) % q)
            → kept_at s last_sums y t ≡ (kept_at s sums y t + sum_over (heard_of (x ∷ xs)) (terms (x ∷ xs))) % q
        go (inl T) ih =
            let now = ap (λ z. kept_at s z y t) T.adds ∙ added_kept narrow s dead u x.helper x.message sums y t h l in
            let o = distinct_cons x.helper (heard_of xs) (sym (ap distinct (order_heard x xs T.number)) ∙ d) in
            let own = ap (λ m. term_at narrow s dead u x.helper m y t) (brought_heard x xs T.number x.helper refl) in
            let rest = over_ext (heard_of xs) (terms (x ∷ xs)) (terms xs)
            (λ z m. ap (λ n. term_at narrow s dead u z n y t)
            (brought_other x xs z (λ e. true≢false (sym m ∙ ap (λ v. member v (heard_of xs)) e ∙ o.0)))) in
            let all = ap (λ z. sum_over z (terms (x ∷ xs))) (order_heard x xs T.number) ∙ over_cons x.helper (heard_of xs) (terms (x ∷ xs)) in
            ih o.1 (rw now (mod-lt _ (omega arith)))
            ∙ ap (λ k. (k + sum_over (heard_of xs) (terms xs)) % q) now ∙ mod-add-mod _ q _ ∙ ap (λ k. k % q) (omega (arith, own, rest, all))
        go (inr T) ih =
            let o = order_refused x xs T.number in
            let same = over_ext (heard_of xs) (terms (x ∷ xs)) (terms xs) (λ z m. ap (λ n. term_at narrow s dead u z n y t) (brought_refused x xs T.number z)) in
            ih (sym (ap distinct o) ∙ d) (rw T.same_sums low)
            ∙ ap₂ (λ a b. (kept_at s a y t + b) % q) T.same_sums (sym (ap (λ z. sum_over z (terms (x ∷ xs))) o ∙ same))

  -- ---- what those heard brought

  -- of the right length, and no symbol too high
  abbrev Message : List ℕ → Type 0
  Message m = (length m ≡ message_size s dead) × ((e : ℕ) → e < length m → get_or m e 0 < narrow.modulus)

  brought_message : (calls : List Call) (sums heard last_sums last_heard : List ℕ) → Calls s dead helpers new sums heard calls last_sums last_heard
      → (h : ℕ) → heard_in calls h ≡ true → Message (brought_by calls h)
  unfolding heard_in
  brought_message [] sums heard last_sums last_heard w h m = absurd (true≢false (sym m))
  brought_message (x ∷ xs) sums heard last_sums last_heard w h m =
      go (either_way sums heard x w.0) (ℕ_discrete h x.helper) (brought_message xs x.sums x.heard last_sums last_heard w.1 h)
    where
      go : Taken sums heard x ⊎ Turned sums heard x → Dec (h ≡ x.helper) → (heard_in xs h ≡ true → Message (brought_by xs h)) → Message (brought_by (x ∷ xs) h)
      go (inl T) (yes e) ih = rw (brought_heard x xs T.number h e) (T.passed.message_long, T.passed.message_low)
      go (inl T) (no d) ih =
          rw (brought_other x xs h d) (ih (sym (heard_in_lem x xs T.number h ∙ ap (λ v. v || heard_in xs h) (ne_eqb h x.helper d)) ∙ m))
      go (inr T) e ih = rw (brought_refused x xs T.number h) (ih (sym (in_refused x xs T.number h) ∙ m))

  -- ---- with sums begun at zero, and nobody heard

  module _ (calls : List Call) (sums heard : List ℕ) (w : Calls s dead helpers new (no_sums s dead) (nobody s) calls sums heard) where
    kept : Kept sums heard
    kept = kept_last calls (no_sums s dead) (nobody s) sums heard w kept_first

    nodes_are : heard_nodes heard ≡ heard_of calls
    nodes_are = nodes_last calls (no_sums s dead) (nobody s) sums heard w ∙ ap (λ z. z ++ heard_of calls) (nobody_nodes s)

    once : distinct (heard_of calls) ≡ true
    once = sym (ap distinct nodes_are) ∙ kept.recorded.once

    known : Within (heard_of calls) helpers
    known = rw nodes_are at kept.recorded.known

    counted : length (heard_of calls) ≡ heard_count heard
    counted = sym (ap length nodes_are) ∙ nodes_length heard (omega (arith, kept.recorded.few, kept.heard_long))

    summed : Summed narrow s dead u (heard_of calls) (brought_by calls) sums
    summed y t h l =
        sums_last y t h l calls (no_sums s dead) (nobody s) sums heard w once (omega (arith, none_kept s dead y t h l))
        ∙ ap (λ k. (k + sum_over (heard_of calls) (terms y t h l calls)) % q) (none_kept s dead y t h l) ∙ ap (λ k. k % q) (omega arith)

    -- a helper's call with a message that is right is heard, if the helper was not before
    pub calls_hear : (x : Call) → Hears s dead helpers new x.helper x.message sums x.sums heard x.heard x.answer
        → lists_refusal s dead helpers (outside dead new) 0 ≡ 0 → member x.helper helpers ≡ true → length x.message ≡ message_size s dead
        → ((e : ℕ) → e < length x.message → get_or x.message e 0 < narrow.modulus) → (x.answer ≡ Ok tt) ⊎ (heard_in calls x.helper ≡ true)
    calls_hear x v e m long low = go (member x.helper (heard_nodes heard)) refl
      where
        go : (t : Bool) → member x.helper (heard_nodes heard) ≡ t → (x.answer ≡ Ok tt) ⊎ (heard_in calls x.helper ≡ true)
        go true n = inr (in_order calls x.helper ∙ sym (ap (member x.helper) nodes_are) ∙ n)
        go false n =
            inl
            (number_only x.answer (Ok tt)
            (v.number
            ∙ hear_clear s dead helpers new x.helper x.message sums heard (record {
              listed = (listed_passed s dead helpers (outside dead new) 0 e).0;
              caller = caller_right (s.k + 1) helpers heard x.helper m n kept.recorded;
              message_long = long;
              sums_long = kept.sums_long;
              heard_long = kept.heard_long;
              message_low = low;
              sums_low = kept.sums_low;
            })))

    -- once all are heard finishing is not turned back, in an accepted repair and with buffers of their lengths
    pub calls_all : ((j : ℕ) → j < length helpers → heard_in calls (get_or helpers j 0) ≡ true) → lists_refusal s dead helpers (outside dead new) 0 ≡ 0
        → (pairs out : ℕ) → pairs ≡ 2 * message_size s dead → out ≡ (length dead - 1) * message_size s dead
        → finish_refusal narrow s dead helpers new sums heard pairs out ≡ 0
    calls_all everyone e pairs out f g =
        finish_clear s dead helpers new sums heard pairs out (record {
          listed = L;
          recorded = kept.recorded;
          sums_long = kept.sums_long;
          heard_long = kept.heard_long;
          pairs_due = f;
          out_due = g;
          full = full;
          sums_low = kept.sums_low;
        })
      where
        L : Listed s dead helpers (outside dead new)
        L = (listed_passed s dead helpers (outside dead new) 0 e).0

        A : Accepted narrow s dead helpers
        A = lists_accepted s dead helpers (outside dead new) L

        all_in : Within helpers (heard_of calls)
        all_in y m =
            let p = at_position helpers y m in
            sym (in_order calls y) ∙ sym (ap (heard_in calls) p.1) ∙ everyone (position y helpers) p.0

        full : heard_count heard ≡ s.k + 1
        full =
            let a = within_fits (heard_of calls) helpers once known in
            let b = within_fits helpers (heard_of calls) (rises_distinct 0 s.n helpers (rising_rises 0 s.n helpers A.lists.helpers_rising)) all_in in
            omega (arith, a, b, counted, A.lists.helpers_count)

    -- where finishing is not turned back, all were heard
    module _ (pairs out : ℕ) (e : finish_refusal narrow s dead helpers new sums heard pairs out ≡ 0) where
      P : FinishPassed s dead helpers new sums heard pairs out
      P = finish_passed s dead helpers new sums heard pairs out e

      A : Accepted narrow s dead helpers
      A = lists_accepted s dead helpers (outside dead new) P.listed

      new_dead : member new dead ≡ true
      new_dead = inside new dead P.listed.named

      all : length (heard_of calls) ≡ length helpers
      all = counted ∙ P.full ∙ sym A.lists.helpers_count

      message : (j : ℕ) → j < length helpers → Message (brought_by calls (get_or helpers j 0))
      message j l =
          brought_message calls (no_sums s dead) (nobody s) sums heard w (get_or helpers j 0)
          (in_order calls (get_or helpers j 0) ∙ within_back (heard_of calls) helpers once known (omega (arith, all)) (get_or helpers j 0) (member_of helpers j l))

      brought_at_lem : (j x : ℕ) → j < length helpers → x < M → get_or (brought helpers calls) (j * M + x) 0 ≡ get_or (brought_by calls (get_or helpers j 0)) x 0
      unfolding brought brought_at
      brought_at_lem j x l h = flat_at M (brought_at helpers calls) (length helpers) (λ i k. (message i k).0) j x 0 l h

      brought_length : length (brought helpers calls) ≡ length helpers * M
      unfolding brought brought_at
      brought_length = flat_length M (brought_at helpers calls) (length helpers) (λ i k. (message i k).0)

      -- the first step on these messages is not turned back
      pub brought_passes : first_step_refusal narrow s dead helpers new (brought helpers calls) pairs out ≡ 0
      brought_passes = first_clear s dead helpers new (brought helpers calls) pairs out (record {
        listed = P.listed;
        new_dead = new_dead;
        long = brought_length ∙ ap (λ z. z * M) A.lists.helpers_count;
        pairs_due = P.pairs_due;
        sums_due = P.out_due;
        below = λ i l.
            let p = place_of (length helpers) M i (rw brought_length at l) in
            let m = message (i / M) p.row in
            subst (λ z. get_or (brought helpers calls) z 0 < narrow.modulus) p.whole
            (rw (brought_at_lem (i / M) (i % M) p.row p.place) (m.1 (i % M) (omega (arith, m.0, p.place))));
      })

      -- and finishing is this first step
      pub calls_step : (finished_pairs narrow s dead helpers (position new dead) sums ≡ own_pairs narrow s dead helpers (position new dead) (brought helpers calls))
          × (finished_exchanges narrow s dead helpers (position new dead) sums ≡ exchanges narrow s dead helpers (position new dead) (brought helpers calls))
      calls_step =
          let rank = (at_position dead new new_dead).0 in (
            summed_pairs narrow s dead helpers A u rank (heard_of calls) once known all (brought_by calls) (brought helpers calls) brought_at_lem sums summed,
            summed_exchanges narrow s dead helpers A u rank (heard_of calls) once known all (brought_by calls) (brought helpers calls) brought_at_lem sums summed,
          )
