-- At the end of a first step: the own pairs, and the messages of sums.
use mathlib.Core.Path.{◌≡◌, refl, sym, ap, ◌∙◌}
use mathlib.Core.Logic.{◌≢◌, ◌⊎◌, inl, inr}
use mathlib.Core.Bool.{Bool, false}
use mathlib.Core.List.{List}
use Prim.Native.Nat.{ℕ, zero, suc, ◌+◌, ◌*◌, ◌-◌, ◌/◌, ◌%◌, ◌≤◌, ◌<◌}
use native.Mathlib.Decide.{ℕ_discrete}
use native.Mathlib.Omega.{arith}
use lib.ListN.{length, get_or}
use lib.Seq.{ext_get_or}
use Rattle.lists.specs.Sums.{sum}
use Rattle.lists.proofs.Flats.{flat_length, flat_at}
use Rattle.lists.proofs.Places.{place_of}
use Rattle.lists.proofs.Tables.{tabulate_at}
use Rattle.shape.specs.declared.Shape.{Shape}
use Rattle.code.specs.Code.{narrow}
use Rattle.rows.specs.Rows.{most_places, Stored, remainder}
use Rattle.filling.specs.Filling.{term, Summed, InRun}
use Rattle.classes.specs.Classes.{node, message_size}
use Rattle.classes.specs.Steps.{other_rank, own_pair, own_pairs, exchange_at, exchange, exchange_to, exchanges}
use Rattle.solving.specs.Solving.{slot_of, row_sum, Put, Other, slot_place, handed_sum, handed, HandedOut, own_entry, own, Owned, pair_place}
use Rattle.classes.proofs.FirstStep.{exchange_length, pairs_at}
use Rattle.classes.proofs.Placing.{other_is}
use Rattle.solving.proofs.Slots.{slot_symbol_own}
use Rattle.solving.proofs.Puts.{put_more, put_stored}

-- no two symbols have one place
pub slots_apart : (all : Bool) (h u size : ℕ) → u < h → (v x w y : ℕ) → (v < h) × (v ≡ u → ⊥) → (w < h) × (w ≡ u → ⊥) → x < size → y < size
    → slot_place all h u size v x ≡ slot_place all h u size w y → (v ≡ w) × (x ≡ y)
unfolding slot_place
slots_apart all h u size l v x w y a b k m e = slot_symbol_own h u l all size v x w y a.0 b.0 a.1 b.1 k m e

pub pairs_apart : (e x d y : ℕ) → e < 2 → d < 2 → pair_place e x ≡ pair_place d y → (e ≡ d) × (x ≡ y)
unfolding pair_place
pairs_apart e x d y h l q = (omega arith, omega arith)

-- one rank's row more
pub handed_more : (dead helpers table sent : List ℕ) (u : ℕ) (all : Bool) (first run share v : ℕ) (old now after sums : List ℕ) → u < length dead → v < length dead → v ≢ u
    → first + run ≤ share → Put (Other (length dead) u) share (slot_place all (length dead) u share) (handed_sum dead helpers table sent first) (λ w x. (w < v) × InRun first run x) old now
    → Summed run most_places 0 helpers table (get_or dead v 0 * length helpers) sent (length helpers) sums
    → Stored (slot_of all (length dead) u v * share + first) run (remainder narrow.modulus sums) now after
    → Put (Other (length dead) u) share (slot_place all (length dead) u share) (handed_sum dead helpers table sent first) (λ w x. (w < v + 1) × InRun first run x) old after
unfolding slot_place handed_sum row_sum remainder node
handed_more dead helpers table sent u all first run share v old now after sums l k d room so_far summed put =
    put_more _ _ _ _ (slots_apart all (length dead) u share l) _ _ _ old now after so_far
    (put_stored _ _ _ _ v first run (k, d) room now after _ _ put (λ t h. omega arith) (λ t h. ap (λ z. z % narrow.modulus) (summed.each_sum t h) ∙ ap (λ z. sum (length helpers) (term table (get_or dead v 0 * length helpers) helpers most_places 0 sent z) % narrow.modulus) (let z : t ≡ first + t - first = omega arith in z)))
    (λ w x a h m. split w x m (ℕ_discrete w v)) (λ w x a h m. (omega (arith, m.0), m.1)) (λ w x a h m. (omega (arith, m.0), m.1))
  where
    split : (w x : ℕ) → (w < v + 1) × InRun first run x → Dec (w ≡ v)
        → ((w ≡ v) × InRun first run x) ⊎ (((w < v) × InRun first run x) × ((w ≡ v) × InRun first run x → ⊥))
    split w x m (yes e) = inl (e, m.1)
    split w x m (no e) = inr ((omega (arith, m.0), m.1), λ z. e z.0)

module _ (s : Shape) (dead helpers : List ℕ) (u : ℕ) (messages : List ℕ) where
  -- the own pair of a sum
  pub own_pair_lem : (e x : ℕ) → e < 2 → get_or (own_pair narrow s dead helpers u messages x) e 0 ≡ own s dead helpers u messages e x
  unfolding own_pair own own_entry exchange_at
  own_pair_lem zero x h = refl
  own_pair_lem (suc zero) x h = refl
  own_pair_lem (suc (suc e)) x h = absurd (omega arith)

  pub pairs_end : (Done : ℕ → Type 0) (old now : List ℕ) → ((x : ℕ) → x < message_size s dead → Done x) → Owned s dead helpers u messages pair_place Done old now
      → length old ≡ 2 * message_size s dead → now ≡ own_pairs narrow s dead helpers u messages
  unfolding pair_place own_pairs own_pair
  pairs_end Done old now all w long =
      ext_get_or 0 now (own_pairs narrow s dead helpers u messages) (w.long ∙ long ∙ sym width) each
    where
      M : ℕ
      M = message_size s dead

      width : length (own_pairs narrow s dead helpers u messages) ≡ 2 * M
      width = flat_length 2 (own_pair narrow s dead helpers u messages) M (λ i l. refl) ∙ omega arith

      each : (i : ℕ) → i < length now → get_or now i 0 ≡ get_or (own_pairs narrow s dead helpers u messages) i 0
      each i h =
          let p = place_of M 2 i (omega (arith, w.long)) in
          ap (λ z. get_or now z 0) (sym p.whole) ∙ w.each (i % 2) (i / 2) p.place p.row (all (i / 2) p.row) ∙ sym (own_pair_lem (i % 2) (i / 2) p.place)
          ∙ sym (pairs_at narrow s dead helpers u messages (i / 2) (i % 2) p.row p.place) ∙ ap (λ z. get_or (own_pairs narrow s dead helpers u messages) z 0) p.whole

  pub sent_end : u < length dead → (Done : ℕ → Type 0) (old now : List ℕ) → ((x : ℕ) → x < message_size s dead → Done x) → HandedOut s dead helpers u messages false Done old now
      → length old ≡ (length dead - 1) * message_size s dead → now ≡ exchanges narrow s dead helpers u messages
  unfolding exchanges exchange_to exchange exchange_at slot_of slot_place handed
  sent_end l Done old now all S long =
      ext_get_or 0 now (exchanges narrow s dead helpers u messages) (S.long ∙ long ∙ sym width) each
    where
      M : ℕ
      M = message_size s dead

      to : ℕ → List ℕ
      to = exchange_to narrow s dead helpers u messages

      sized : (j : ℕ) → j < length dead - 1 → length (to j) ≡ M
      sized j h = exchange_length narrow s dead helpers u messages (node dead (other_rank u j))

      width : length (exchanges narrow s dead helpers u messages) ≡ (length dead - 1) * M
      width = flat_length M to (length dead - 1) sized

      each : (i : ℕ) → i < length now → get_or now i 0 ≡ get_or (exchanges narrow s dead helpers u messages) i 0
      each i h =
          let w = place_of (length dead - 1) M i (omega (arith, S.long)) in
          let o = other_is (length dead) u (i / M) l w.row in
          ap (λ z. get_or now z 0) (sym w.whole)
          ∙ ap (λ z. get_or now (z * M + (i % M)) 0) (sym o.2)
          ∙ S.each (other_rank u (i / M)) (i % M) (o.0, o.1) w.place (all (i % M) w.place)
          ∙ sym (tabulate_at M (exchange_at narrow s dead helpers u messages (node dead (other_rank u (i / M)))) (i % M) 0 w.place)
          ∙ sym (flat_at M to (length dead - 1) sized (i / M) (i % M) 0 w.row w.place)
          ∙ ap (λ z. get_or (exchanges narrow s dead helpers u messages) z 0) w.whole
