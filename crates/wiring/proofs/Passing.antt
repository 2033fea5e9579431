-- A rank's first step on the wire: where its own symbols stand, and one run of sums after the other.
use mathlib.Core.Path.{◌≡◌, refl, sym, ap, ap₂, ◌∙◌}
use mathlib.Core.Bool.{Bool, true, false, cond}
use mathlib.Core.List.{List}
use Prim.Native.Nat.{ℕ, zero, suc, ◌+◌, ◌*◌, ◌^◌, ◌≤◌, ◌<◌}
use native.Mathlib.Omega.{arith}
use lib.Bits.{bit_xor}
use lib.Dec.{eqb}
use lib.ListN.{length, get_or}
use lib.Seq.{get_or-drop}
use Rattle.lists.specs.Lists.{element}
use Rattle.lists.specs.Digits.{flip}
use Rattle.shape.specs.declared.Shape.{Shape}
use Rattle.shape.specs.Shape.{size}
use Rattle.shape.proofs.Accepted.{shape_accepted}
use Rattle.code.specs.Code.{narrow}
use Rattle.filling.specs.Filling.{InRun, InLayers, Below}
use Rattle.classes.specs.declared.Layout.{Layout}
use Rattle.classes.specs.Classes.{batch, node, rank_class, partner, members, place_of, Sum, spot, sum_at, sum_place, message_size}
use Rattle.classes.specs.Steps.{own_pairs, exchange_at}
use Rattle.classes.specs.Layout.{Ready, Fronted}
use Rattle.classes.proofs.Dead.{Dead}
use Rattle.classes.proofs.Adding.{joined}
use Rattle.classes.proofs.FirstStep.{pairs_at}
use Rattle.classes.proofs.Layouts.{bounded, ready_dead}
use Rattle.classes.proofs.Sums.{At, sum_at_all, sum_at_lt}
use Rattle.classes.proofs.Messages.{spot_number}
use Rattle.classes.proofs.Members.{member_sum, member_number}
use Rattle.batches.proofs.Batches.{turned_is}
use Rattle.steps.specs.Storing.{sum_symbol, Paired}
use Rattle.steps.proofs.Storing.{firsts_own, others_own, first_other}
use Rattle.steps.proofs.Turned.{turn_of, turn_is, turned_place}
use Rattle.solving.specs.Solving.{slot_place, handed, Places}
use Rattle.solving.proofs.Puts.{put_none, put_batch, put_run}
use Rattle.solving.proofs.Sending.{slots_apart, own_pair_lem}
use Rattle.wiring.specs.Wires.{inwards, to_rank, Wired, Sent, own_place, Offsets, OnWire}
use Rattle.wiring.proofs.OnWire.{to_rank_front}

-- ---- the places of the own symbols

own_place_lem : (s : Shape) (dead : List ℕ) (u e b a x : ℕ) → Sum s dead u b a → sum_at s dead u b a ≡ x → own_place s dead u e x ≡ sum_place s dead u e b a
unfolding own_place sum_place spot
own_place_lem s dead u e b a x S q = ap (λ p. cond (eqb e 0) p.one p.other) (spot_number s dead u b a x S q)

module _ {s : Shape} {dead : List ℕ} (D : Dead s dead) (u : ℕ) (l : u < length dead) where
  -- no two are one
  pub own_apart : (e x d y : ℕ) → e < 2 → d < 2 → x < message_size s dead → y < message_size s dead → own_place s dead u e x ≡ own_place s dead u d y → (e ≡ d) × (x ≡ y)
  own_apart e x d y h k m n q =
      let A = sum_at_all D u x m in
      let B = sum_at_all D u y n in
      go e d h k A B (sym (own_place_lem s dead u e A.b A.a x A.sum A.place) ∙ q ∙ own_place_lem s dead u d B.b B.a y B.sum B.place)
    where
      number : (A : At s dead u x) (B : At s dead u y) → (A.b ≡ B.b) × (A.a ≡ B.a) → x ≡ y
      number A B z = sym A.place ∙ ap₂ (sum_at s dead u) z.0 z.1 ∙ B.place

      go : (e d : ℕ) → e < 2 → d < 2 → (A : At s dead u x) (B : At s dead u y) → sum_place s dead u e A.b A.a ≡ sum_place s dead u d B.b B.a → (e ≡ d) × (x ≡ y)
      go zero zero h k A B z = (refl, number A B (firsts_own D u l _ _ _ _ A.sum B.sum z))
      go zero (suc zero) h k A B z = absurd (first_other D u l _ _ _ _ A.sum B.sum z)
      go (suc zero) zero h k A B z = absurd (first_other D u l _ _ _ _ B.sum A.sum (sym z))
      go (suc zero) (suc zero) h k A B z = (refl, number A B (others_own D u l _ _ _ _ A.sum B.sum z))
      go (suc (suc e)) d h k A B z = absurd (omega arith)
      go zero (suc (suc d)) h k A B z = absurd (omega arith)
      go (suc zero) (suc (suc d)) h k A B z = absurd (omega arith)

  -- all are a node's
  own_below : (e x : ℕ) → e < 2 → x < message_size s dead → own_place s dead u e x < size s
  unfolding own_place
  own_below zero x h k = (joined D u l x k).one_below
  own_below (suc zero) x h k = (joined D u l x k).other_below
  own_below (suc (suc e)) x h k = absurd (omega arith)

  -- so a run's can be stored at
  pub own_places : (e first run row : ℕ) (at : List ℕ) → run ≤ length at → e < 2 → first + run ≤ message_size s dead → ((t : ℕ) → t < run → row + element at t ≡ own_place s dead u e (first + t))
      → Places run row at (size s)
  own_places e first run row at long h room is = record {
    long = long;
    inside = λ t k. rw (is t k) (own_below e (first + t) h (omega arith));
    apart = λ t v k m q.
        let z = (own_apart e (first + t) e (first + v) h h (omega arith) (omega arith) (sym (is t k) ∙ ap (λ y. row + y) q ∙ is v m)).1 in
        omega arith;
  }

-- in batch b they are as far behind those of batch 0 as b batches are long
batch_place : (s : Shape) (dead : List ℕ) (w b a : ℕ) → b * batch dead * 2 ^ s.n + place_of s dead w 0 a ≡ place_of s dead w b a
unfolding place_of
batch_place s dead w b a = omega arith

-- there is a batch
pub batches_some : {dead : List ℕ} {g : Layout} → Ready dead g → 0 < g.batches
batches_some {dead} {g} R = go g.batches (bounded R).layers_are (shape_accepted g.shape R.shaped).layers_low
  where
    go : (b : ℕ) → b * g.batch ≡ g.shape.layers → 0 < g.shape.layers → 0 < b
    go zero q l = absurd (omega (arith, q, l))
    go (suc b) q l = omega arith

-- an a of the class, turned
pub offset_turned : {dead : List ℕ} {g : Layout} → Ready dead g → (u which x a turn : ℕ) → u < length dead → which < 2 → x < length (members dead (rank_class dead u) (2 ^ g.shape.n))
    → a ≡ get_or (members dead (rank_class dead u) (2 ^ g.shape.n)) x 0 → turn ≡ partner dead u * 2 ^ g.shape.n + 2 ^ node dead u → bit_xor a (turn * which) ≡ sum_place g.shape dead u which 0 a
offset_turned {dead} {g} R u which x a turn l h k e q =
    rw (e, q ∙ turn_is g.shape dead u)
    (sym (turned_is (members dead (rank_class dead u) (2 ^ g.shape.n)) (turn_of g.shape dead u * which) x) ∙ omega (arith, (turned_place R u l 0 x (batches_some R) k which h).1))

pub batch_places : {dead : List ℕ} {g : Layout} → Ready dead g → (u e b a : ℕ)
    → b * g.batch * g.places + sum_place g.shape dead u e 0 a ≡ sum_place g.shape dead u e b a
unfolding sum_place
batch_places {dead} {g} R u e b a =
    rw (R.batch_is, R.places_is) (go (eqb e 0))
  where
    go : (t : Bool) → b * batch dead * 2 ^ g.shape.n + cond t (place_of g.shape dead 0 0 a) (place_of g.shape dead (partner dead u) 0 (flip (node dead u) a))
        ≡ cond t (place_of g.shape dead 0 b a) (place_of g.shape dead (partner dead u) b (flip (node dead u) a))
    go true = batch_place g.shape dead 0 b a
    go false = batch_place g.shape dead (partner dead u) b (flip (node dead u) a)

module _ {dead : List ℕ} {g : Layout} (R : Ready dead g) (u first run : ℕ) (class : List ℕ) (L : Fronted dead (rank_class dead u) g.shape.n class)
    (room : first + run ≤ length (members dead (rank_class dead u) (2 ^ g.shape.n))) where
  offset_is : (e b : ℕ) (at : List ℕ) → b < g.batches → ((t : ℕ) → t < run → element at t ≡ sum_place g.shape dead u e 0 (get_or class (first + t) 0))
      → (t : ℕ) → t < run → b * g.batch * g.places + element at t ≡ own_place g.shape dead u e (b * length (members dead (rank_class dead u) (2 ^ g.shape.n)) + first + t)
  offset_is e b at h is t k =
      let c = rank_class dead u in
      let C = length (members dead c (2 ^ g.shape.n)) in
      let a = get_or (members dead c (2 ^ g.shape.n)) (first + t) 0 in
      let l : first + t < C = omega arith in
      let hb = rw R.batches_is at h in
      ap (λ z. b * g.batch * g.places + z) (is t k ∙ ap (sum_place g.shape dead u e 0) (L.each (first + t) l))
      ∙ batch_places R u e b a
      ∙ sym (own_place_lem g.shape dead u e b a _ (member_sum g.shape dead u b (first + t) hb l) (member_number g.shape dead u b (first + t) hb l))
      ∙ ap (own_place g.shape dead u e) (let z : b * C + (first + t) ≡ b * C + first + t = omega arith in z)

  pub offsets_are : (ones others : List ℕ) → run ≤ length ones → run ≤ length others → ((t : ℕ) → t < run → element ones t ≡ sum_place g.shape dead u 0 0 (get_or class (first + t) 0))
      → ((t : ℕ) → t < run → element others t ≡ sum_place g.shape dead u 1 0 (get_or class (first + t) 0)) → (b : ℕ) → b < g.batches
      → Offsets g.shape dead u (b * length (members dead (rank_class dead u) (2 ^ g.shape.n)) + first) run (b * g.batch * g.places) ones others
  offsets_are ones others p q f h b l = record { ones_long = p; others_long = q; one = offset_is 0 b ones l f; other = offset_is 1 b others l h }

-- ---- one run after the other

module _ {dead : List ℕ} {g : Layout} (R : Ready dead g) (helpers : List ℕ) (u : ℕ) (l : u < length dead) where
  abbrev s : Shape
  s = g.shape

  pub on_wire_none : (Done : ℕ → Type 0) (part wire : List ℕ) → ((x : ℕ) → x < message_size g.shape dead → Done x → ⊥) → OnWire g.shape dead helpers u Done part part wire wire
  on_wire_none Done part wire never =
      record { own = put_none _ _ _ _ _ part (λ e x k h. never x h); long = refl; head = refl; sent = put_none _ _ _ _ _ _ (λ e x k h. never x h) }

  module _ (part₀ part after wire₀ wire wire_after : List ℕ) (room : inwards g.shape dead ≤ length wire₀) where
    -- the messages are still what they were
    same : (Done : ℕ → Type 0) → OnWire s dead helpers u Done part₀ part wire₀ wire → to_rank s dead u wire ≡ to_rank s dead u wire₀
    same Done W = to_rank_front s dead u wire wire₀ l (omega (arith, W.long)) room W.head

    -- and so is the wire what it was
    pub still_wired : (Done : ℕ → Type 0) → Wired g.shape dead helpers wire₀ → OnWire g.shape dead helpers u Done part₀ part wire₀ wire → Wired g.shape dead helpers wire
    still_wired Done Q W = record {
      long = W.long ∙ Q.long;
      helped = λ v k. rw (to_rank_front s dead v wire wire₀ k (omega (arith, W.long)) room W.head) (Q.helped v k);
    }

    pub on_wire_batch : (first run b whole : ℕ) → first + run ≤ whole → OnWire g.shape dead helpers u (InLayers whole first run b) part₀ part wire₀ wire
        → OnWire g.shape dead helpers u (InRun (b * whole + first) run) part after wire wire_after → OnWire g.shape dead helpers u (InLayers whole first run (b + 1)) part₀ after wire₀ wire_after
    on_wire_batch first run b whole h W X = record {
      own = put_batch _ _ _ _ (own_apart (ready_dead R) u l) first run b whole _ _ _ h W.own (rw (same _ W) at X.own);
      long = X.long ∙ W.long;
      head = X.head ∙ W.head;
      sent = put_batch _ _ _ _ (slots_apart true _ _ _ l) first run b whole _ _ _ h W.sent (rw (same _ W) at X.sent);
    }

    pub on_wire_run : (first run batches whole : ℕ) → message_size g.shape dead ≡ batches * whole → OnWire g.shape dead helpers u (Below whole first) part₀ part wire₀ wire
        → OnWire g.shape dead helpers u (InLayers whole first run batches) part after wire wire_after → OnWire g.shape dead helpers u (Below whole (first + run)) part₀ after wire₀ wire_after
    on_wire_run first run batches whole e W X = record {
      own = put_run _ _ _ _ (own_apart (ready_dead R) u l) first run batches whole _ _ _ e W.own (rw (same _ W) at X.own);
      long = X.long ∙ W.long;
      head = X.head ∙ W.head;
      sent = put_run _ _ _ _ (slots_apart true _ _ _ l) first run batches whole _ _ _ e W.sent (rw (same _ W) at X.sent);
    }

  pub on_wire_end : (Done : ℕ → Type 0) (part after wire wire_after : List ℕ) → ((x : ℕ) → x < message_size g.shape dead → Done x) → length part ≡ size g.shape
      → OnWire g.shape dead helpers u Done part after wire wire_after
      → Paired g.shape dead u (own_pairs narrow g.shape dead helpers u (to_rank g.shape dead u wire)) after × Sent g.shape dead helpers u wire wire_after
  unfolding sum_symbol slot_place handed exchange_at
  on_wire_end Done part after wire wire_after all long W = (
    record { long = W.own.long ∙ long; one = λ b a S. pair 0 b a (omega arith) S; other = λ b a S. pair 1 b a (omega arith) S },
    record {
      long = W.long;
      head = W.head;
      each = λ v y h d k. sym (get_or-drop (inwards s dead) wire_after _ 0) ∙ W.sent.each v y (h, d) k (all y k);
      rest = λ z h. sym (get_or-drop (inwards s dead) wire_after z 0) ∙ W.sent.rest z (λ v y k m d. h v y k.0 k.1 m) ∙ get_or-drop (inwards s dead) wire z 0;
    },
  )
    where
      pair : (e b a : ℕ) → e < 2 → Sum s dead u b a
          → get_or after (sum_place s dead u e b a) 0 ≡ get_or (own_pairs narrow s dead helpers u (to_rank s dead u wire)) (sum_at s dead u b a * 2 + e) 0
      pair e b a h S =
          let x = sum_at s dead u b a in
          let k = sum_at_lt (ready_dead R) u b a S in
          ap (λ z. get_or after z 0) (sym (own_place_lem s dead u e b a x S refl)) ∙ W.own.each e x h k (all x k) ∙ sym (own_pair_lem s dead helpers u (to_rank s dead u wire) e x h)
          ∙ sym (pairs_at narrow s dead helpers u (to_rank s dead u wire) x e k h)
