-- The needed entries of a run's columns: the multipliers' sums are those of the columns.
use mathlib.Core.Path.{◌≡◌, refl, sym, ap, ap₂, ◌∙◌}
use mathlib.Core.Logic.{◌⊎◌, inl, inr}
use mathlib.Core.Bool.{Bool, true, false, cond, not}
use mathlib.Core.List.{List}
use Prim.Native.Nat.{ℕ, ◌+◌, ◌*◌, ◌-◌, ◌%◌, ◌^◌, ◌<◌, ◌≤◌}
use native.Mathlib.Nat.{mul-le-mul, mul-le-mul_right, div-le_self}
use native.Mathlib.Decide.{ℕ_discrete}
use native.Mathlib.Omega.{arith}
use borrow.Author.Tests.{not-false}
use lib.Dec.{eqb}
use lib.ListN.{length, get_or, take, drop, length-take}
use lib.Seq.{get_or-drop, get_or-take}
use Rattle.lists.specs.Lists.{element, member, position, rising}
use Rattle.lists.proofs.Members.{member_of, at_position, rising_below, rising_distinct, rising_more}
use Rattle.lists.proofs.Sums.{sum_ext}
use Rattle.lists.proofs.Tests.{below_or_not}
use Rattle.lists.proofs.Places.{place_of}
use Rattle.shape.specs.Shape.{most_nodes, most_layers}
use Rattle.shape.proofs.Accepted.{shape_accepted}
use Rattle.code.specs.Code.{narrow, more_points}
use Rattle.code.proofs.NodePoints.{more_length, more_good}
use Rattle.code.proofs.Accepted.{narrow_accepted}
use Rattle.rows.specs.Rows.{most_places, Stored, copied}
use Rattle.multipliers.specs.Multipliers.{multiplier}
use Rattle.multipliers.proofs.Multipliers.{missing_sum}
use Rattle.tables.specs.Tables.{entry_points, Idle, TableOver}
use Rattle.filling.specs.Filling.{term, Summable, InRun, Below}
use Rattle.filling.proofs.Filling.{apart}
use Rattle.classes.specs.declared.Layout.{Layout}
use Rattle.classes.specs.Classes.{batch, top, node, rank_class, spot, members, spot_at, message_size}
use Rattle.classes.specs.Steps.{solved, exchange_at}
use Rattle.classes.specs.Layout.{Ready, Fronted}
use Rattle.classes.proofs.Ranks.{rank_class_le}
use Rattle.classes.proofs.Counts.{message_is}
use Rattle.classes.proofs.Layouts.{bounded, ready_dead, node_high}
use Rattle.classes.proofs.Members.{members_few, member_spot}
use Rattle.solving.specs.Solving.{Helped, Gathered, row_sum, Needed, Multiplied, Spread, Put, Other, slot_place, handed_sum, handed, HandedOut, Which, own_entry, own, Owned}
use Rattle.solving.proofs.Puts.{put_same, put_more, put_spread}

-- ---- what the helpers sent

module _ (helpers : List ℕ) (n : ℕ) (high : n ≤ most_nodes) (up : rising 0 n helpers ≡ true) (share first run : ℕ) (few : run ≤ most_places) (messages : List ℕ) where
  pub gathered_more : (m : ℕ) (now after : List ℕ) → m < length helpers → Gathered helpers share first run messages m now
      → Stored (get_or helpers m 0 * most_places) run (copied messages (m * share + first)) now after → Gathered helpers share first run messages (m + 1) after
  unfolding copied
  gathered_more m now after h w put = record { long = put.long ∙ w.long; each = λ j t l g. go j t l g (ℕ_discrete j m) }
    where
      go : (j t : ℕ) → j < m + 1 → t < run → Dec (j ≡ m) → get_or after (get_or helpers j 0 * most_places + t) 0 ≡ get_or messages (j * share + (first + t)) 0
      go j t l g (yes e) = rw e (put.there t g ∙ ap (λ z. get_or messages z 0) (let z : m * share + first + t ≡ m * share + (first + t) = omega arith in z))
      go j t l g (no e) =
          beside (apart most_places (get_or helpers m 0) (get_or helpers j 0) t 0 run (λ q. e (rising_distinct n helpers up j m (omega arith) h q)) (omega arith) (omega arith))
          ∙ w.each j t (omega arith) g
        where
          beside : (get_or helpers j 0 * most_places + t < get_or helpers m 0 * most_places + 0) ⊎ (get_or helpers m 0 * most_places + 0 + run ≤ get_or helpers j 0 * most_places + t)
              → get_or after (get_or helpers j 0 * most_places + t) 0 ≡ get_or now (get_or helpers j 0 * most_places + t) 0
          beside (inl b) = put.ahead _ (omega arith)
          beside (inr b) = put.behind _ (omega arith)

-- ---- the members of a class in a run

-- the run is within the listed class, whose members are few
pub run_inside : {dead : List ℕ} {g : Layout} → Ready dead g → (u first run : ℕ) (class : List ℕ) → g.places ≤ length class
    → first + run ≤ length (members dead (rank_class dead u) (2 ^ g.shape.n)) → (first + run ≤ length class) × (first + run ≤ 2 ^ most_nodes)
run_inside {dead} {g} R u first run class h l =
    let f = members_few dead (rank_class dead u) (2 ^ g.shape.n) in
    (omega (arith, h, R.places_is, l, f), omega (arith, l, f, (shape_accepted g.shape R.shaped).places_high))

pub run_member : (class : List ℕ) (first run t : ℕ) → t < length (take (first + run - first) (drop first class))
    → get_or (take (first + run - first) (drop first class)) t 0 ≡ get_or class (first + t) 0
run_member class first run t h =
    get_or-take (first + run - first) (drop first class) t 0 (omega (arith, h, length-take (first + run - first) (drop first class))) ∙ get_or-drop first class t 0

-- ---- the entries

-- there are few batches
pub batches_high : {dead : List ℕ} {g : Layout} → Ready dead g → g.batches ≤ most_layers
batches_high {dead} {g} R = omega (arith, R.batches_is, div-le_self g.shape.layers (batch dead), (bounded R).layers_high)

-- each batch has a sum for each member of a rank's class
pub record Classed (dead : List ℕ) (g : Layout) (u size : ℕ) : Type 0 where
  pub is : size ≡ length (members dead (rank_class dead u) (2 ^ g.shape.n))
  pub sums : message_size g.shape dead ≡ g.batches * size
  pub few : size ≤ 2 ^ most_nodes

pub classed : {dead : List ℕ} {g : Layout} → Ready dead g → (u size : ℕ) → ((c : ℕ) → c ≤ top dead → size ≡ length (members dead c (2 ^ g.shape.n))) → Classed dead g u size
classed {dead} {g} R u size h =
    let c = rank_class dead u in
    let e = h c (rank_class_le dead u) in
    record {
      is = e;
      sums = rw (e, R.batches_is) (message_is (ready_dead R) c (rank_class_le dead u));
      few = omega (arith, e, members_few dead c (2 ^ g.shape.n), (shape_accepted g.shape R.shaped).places_high);
    }

-- a run of its sums in batch b is within a message
pub batch_room : (message batches b size first run : ℕ) → message ≡ batches * size → first + run ≤ size → b < batches → b * size + first + run ≤ message
batch_room message batches b size first run e h l = omega (arith, e, mul-le-mul_right size (let z : b + 1 ≤ batches = omega arith in z))

-- where all members are passed, all sums are done
pub all_passed : (batches size first x : ℕ) → size ≤ first → x < batches * size → Below size first x
all_passed batches size first x h l = omega (arith, (place_of batches size x l).place)

-- a needed entry is one of the n + 1, and no helper's
pub needed_missing : {dead : List ℕ} {g : Layout} → Ready dead g → (helpers : List ℕ) → rising 0 g.shape.n helpers ≡ true
    → ((v j : ℕ) → v < length dead → j < length helpers → get_or dead v 0 ≡ get_or helpers j 0 → ⊥) → (i : ℕ) → Needed g.shape dead i → (i < g.shape.n + 1) × (member i helpers ≡ false)
needed_missing {dead} {g} R helpers up apart i N = go (member i helpers) refl N
  where
    n : ℕ
    n = g.shape.n

    go : (b : Bool) → member i helpers ≡ b → Needed g.shape dead i → (i < n + 1) × (member i helpers ≡ false)
    go false e (inl d) = (omega arith, e)
    go false e (inr d) = let p = at_position dead i d in (omega (arith, rising_below n dead R.rises (position i dead) p.0, p.1), e)
    go true e (inl d) = let p = at_position helpers i e in absurd (omega (arith, rising_below n helpers up (position i helpers) p.0, p.1))
    go true e (inr d) =
        let p = at_position helpers i e in
        let r = at_position dead i d in
        absurd (apart (position i dead) (position i helpers) r.0 p.0 (r.1 ∙ sym p.1))

-- those that are not skipped are needed, and the needed are not skipped
module _ {dead : List ℕ} {g : Layout} (R : Ready dead g) (skipped : List Bool) (I : Idle g.shape.n dead skipped) where
  pub unskipped : (i : ℕ) → i < g.shape.n + 1 → get_or skipped i false ≡ false → Needed g.shape dead i
  unskipped i h e = go (below_or_not i g.shape.n)
    where
      go : (i < g.shape.n) ⊎ (g.shape.n ≤ i) → Needed g.shape dead i
      go (inl l) = inr (not-false _ (sym (I.each i l) ∙ e))
      go (inr l) = inl (omega arith)

  needed_unskipped : (i : ℕ) → Needed g.shape dead i → get_or skipped i false ≡ false
  needed_unskipped i (inl d) = ap (λ z. get_or skipped z false) d ∙ I.behind
  needed_unskipped i (inr d) =
      let p = at_position dead i d in
      I.each i (omega (arith, rising_below g.shape.n dead R.rises (position i dead) p.0, p.1)) ∙ ap not d

  -- the multipliers at a run of the members of a rank's class serve its sums in every batch
  pub class_multiplied : (helpers : List ℕ) (u first run : ℕ) (class each table : List ℕ) → Fronted dead (rank_class dead u) g.shape.n class
      → first + run ≤ length (members dead (rank_class dead u) (2 ^ g.shape.n)) → ((t : ℕ) → t < run → element each t ≡ get_or class (first + t) 0)
      → TableOver (entry_points g.shape.n (node dead u) (element each)) run helpers (λ e. get_or skipped e false) (g.shape.n + 1) table
      → (b : ℕ) → b < g.batches → Multiplied g.shape dead helpers u (b * length (members dead (rank_class dead u) (2 ^ g.shape.n)) + first) run table
  unfolding spot
  class_multiplied helpers u first run class each table L room is T b h = record {
    long = T.long;
    low = T.low;
    each = λ i j t N l k.
        (T.each i j (below i N) (needed_unskipped i N) l).each t k
        ∙ ap (λ a. multiplier narrow.modulus (more_points narrow g.shape.n a (node dead u)) helpers i j)
        (is t k ∙ L.each (first + t) (omega arith)
        ∙ sym (ap (λ z. z.a) (ap (spot_at g.shape dead u) (let z : b * size + first + t ≡ b * size + (first + t) = omega arith in z)
        ∙ member_spot g.shape dead u b (first + t) (rw (← R.batches_is) h) (omega arith))));
  }
    where
      size : ℕ
      size = length (members dead (rank_class dead u) (2 ^ g.shape.n))

      below : (i : ℕ) → Needed g.shape dead i → i < g.shape.n + 1
      below i (inl d) = omega arith
      below i (inr d) = let p = at_position dead i d in omega (arith, rising_below g.shape.n dead R.rises (position i dead) p.0, p.1)

module _ {dead : List ℕ} {g : Layout} (R : Ready dead g) (helpers : List ℕ) (u : ℕ) (messages : List ℕ) (H : Helped g.shape dead helpers u messages) where
  abbrev n : ℕ
  n = g.shape.n

  abbrev M : ℕ
  M = message_size g.shape dead

  few_helpers : length helpers + 1 ≤ n
  few_helpers = omega (arith, H.count, (shape_accepted g.shape R.shaped).k_high)

  -- the entries that a first step needs
  pub rank_needed : (v : ℕ) → v < length dead → Needed g.shape dead (node dead v)
  unfolding node
  rank_needed v h = inr (member_of dead v h)

  pub own_needed : (e : ℕ) → Needed g.shape dead (own_entry g.shape dead u e)
  unfolding own_entry
  own_needed e = go (eqb e 0)
    where
      go : (b : Bool) → Needed g.shape dead (cond b (node dead u) n)
      go true = rank_needed u H.rank
      go false = inl refl

  module _ (first run : ℕ) (few : run ≤ most_places) (inside : first + run ≤ message_size g.shape dead) (table sent : List ℕ)
      (W : Multiplied g.shape dead helpers u first run table) (G : Gathered helpers g.share first run messages (length helpers) sent) where
    told : (j t : ℕ) → j < length helpers → t < run → get_or sent (get_or helpers j 0 * most_places + 0 + t) 0 ≡ get_or messages (j * M + (first + t)) 0
    told j t h l =
        ap (λ z. get_or sent z 0) (let z : get_or helpers j 0 * most_places + 0 + t ≡ get_or helpers j 0 * most_places + t = omega arith in z) ∙ G.each j t h l
        ∙ ap (λ z. get_or messages (j * z + (first + t)) 0) R.share_is

    -- the rows can be summed
    pub entry_summable : (i : ℕ) → i < g.shape.n + 1 → Summable run most_places 0 helpers table (i * length helpers) sent
    entry_summable i h =
        let high = (bounded R).n_high in
        record {
          few = few;
          short = omega (arith, few_helpers);
          low = W.low;
          room = omega (arith, W.long, mul-le-mul {n₁ = i + 1} {m₁ = length helpers} {n₂ = most_nodes + 1} {m₂ = most_nodes - 1} (omega arith) (omega (arith, few_helpers)));
          inside = λ j l. omega (arith, G.long, rising_below n helpers H.rises j l);
          small = λ j t l k. rw (told j t l k) (H.below j (first + t) (omega (arith, H.count)) (omega arith));
        }

    pub rank_summable : (v : ℕ) → v < length dead → Summable run most_places 0 helpers table (node dead v * length helpers) sent
    rank_summable v h = entry_summable (node dead v) (omega (arith, (node_high R v h).0))

    -- and the sums are the columns' entries
    entry_is : (i t : ℕ) → Needed g.shape dead i → t < run → row_sum table helpers i sent t ≡ exchange_at narrow g.shape dead helpers u messages i (first + t)
    unfolding row_sum exchange_at solved
    entry_is i t N h =
        let m = needed_missing R helpers H.rises H.apart i N in
        let more = more_length narrow n (spot_at g.shape dead u (first + t)).a (node dead u) in
        ap (λ z. z % narrow.modulus) (sum_ext (length helpers) _ _ same)
        ∙ sym
        (missing_sum narrow.modulus (narrow_accepted g.shape R.shaped).prime ps
        (more_good narrow n (narrow_accepted g.shape R.shaped) (spot_at g.shape dead u (first + t)).a (node dead u) (node_high R u H.rank).0) helpers
        (rw more (rising_more n helpers H.rises)) i (rw more (omega (arith, m.0))) m.1 (λ j. get_or messages (j * M + (first + t)) 0)
        (λ j l. H.below j (first + t) (omega (arith, H.count)) (omega arith)))
      where
        ps : List ℕ
        ps = more_points narrow n (spot_at g.shape dead u (first + t)).a (node dead u)

        same : (j : ℕ) → j < length helpers
            → term table (i * length helpers) helpers most_places 0 sent t j ≡ multiplier narrow.modulus ps helpers i j * get_or messages (j * M + (first + t)) 0
        same j l = unfold term in ap₂ ◌*◌ (W.each i j t N l h) (told j t l h)

    -- what is handed out
    pub run_handed : (all : Bool) (before after : List ℕ)
        → Put (Other (length dead) u) (message_size g.shape dead) (slot_place all (length dead) u (message_size g.shape dead)) (handed_sum dead helpers table sent first) (λ v x. InRun first run x) before after
        → HandedOut g.shape dead helpers u messages all (InRun first run) before after
    unfolding handed_sum handed
    run_handed all before after w =
        put_same _ _ _ _ _ _ _ before after (λ v x k h d. d) (λ v x k h d. d)
        (λ v x k h d.
        let z : first + (x - first) ≡ x = omega (arith, d) in
        entry_is (node dead v) (x - first) (rank_needed v k.0) (omega (arith, d)) ∙ ap (λ y. exchange_at narrow g.shape dead helpers u messages (node dead v) y) z)
        w

    -- and the own symbols
    pub run_owned : (place : ℕ → ℕ → ℕ) → ((e x d y : ℕ) → e < 2 → d < 2 → x < message_size g.shape dead → y < message_size g.shape dead → place e x ≡ place d y → (e ≡ d) × (x ≡ y))
        → (base back : ℕ) (at rear before now after : List ℕ) → Spread run base at (row_sum table helpers (node dead u) sent) before now
        → Spread run back rear (row_sum table helpers g.shape.n sent) now after → ((t : ℕ) → t < run → base + element at t ≡ place 0 (first + t))
        → ((t : ℕ) → t < run → back + element rear t ≡ place 1 (first + t)) → Owned g.shape dead helpers u messages place (InRun first run) before after
    unfolding own own_entry
    run_owned place apart base back at rear before now after w v is so =
        put_more Which M place (own g.shape dead helpers u messages) apart (λ e x. (e ≡ 0) × InRun first run x) (λ e x. (e ≡ 1) × InRun first run x) _ before now after
        (put_spread Which M place (own g.shape dead helpers u messages) 0 first run (omega arith) inside before now base at _ w is (λ t h. entry_is _ t (own_needed 0) h))
        (put_spread Which M place (own g.shape dead helpers u messages) 1 first run (omega arith) inside now after back rear _ v so (λ t h. entry_is _ t (own_needed 1) h))
        (λ e x k h m. split e x k m (ℕ_discrete e 0)) (λ e x k h m. m.1) (λ e x k h m. m.1)
      where
        split : (e x : ℕ) → e < 2 → InRun first run x → Dec (e ≡ 0) → ((e ≡ 1) × InRun first run x) ⊎ (((e ≡ 0) × InRun first run x) × ((e ≡ 1) × InRun first run x → ⊥))
        split e x k m (yes z) = inr ((z, m), λ y. omega (arith, y.0))
        split e x k m (no z) = inl (omega arith, m)
