-- Runs of places filled in, one row after the other, and the runs of all layers and all a.
use mathlib.Core.Path.{◌≡◌, refl, sym, ap, ap₂, ◌∙◌}
use mathlib.Core.Logic.{◌≢◌, ◌⊎◌, inl, inr}
use mathlib.Core.Bool.{true, false, true≢false}
use mathlib.Core.List.{List}
use Prim.Native.Nat.{ℕ, ◌+◌, ◌-◌, ◌*◌, ◌/◌, ◌%◌, ◌^◌, ◌<◌, ◌≤◌, min}
use native.Mathlib.Nat.{mul-le-mul_right, mod-lt, div_self}
use native.Mathlib.Decide.{ℕ_discrete}
use native.Mathlib.Omega.{arith}
use lib.Arith.{digits_mod}
use lib.ListN.{length, get_or}
use lib.Pow.{pow_mono, pow_pos, pow-add}
use Rattle.lists.specs.Lists.{member, rising}
use Rattle.lists.proofs.Tests.{below_or_not}
use Rattle.lists.proofs.Members.{member_of, rising_below}
use Rattle.lists.proofs.Others.{rising_fits}
use Rattle.lists.proofs.Sums.{sum_ext}
use Rattle.column.specs.Column.{completed}
use Rattle.column.proofs.Column.{completed_ext}
use Rattle.shape.specs.declared.Shape.{Shape}
use Rattle.shape.specs.Shape.{most_nodes, size}
use Rattle.shape.specs.Refusals.{shape_bad}
use Rattle.shape.proofs.Accepted.{shape_accepted, most_size}
use Rattle.code.specs.Code.{narrow, points, GoodCode}
use Rattle.code.proofs.NodePoints.{good_fewer, points_length, points_good}
use Rattle.code.proofs.Narrow.{narrow_good}
use Rattle.rows.specs.Rows.{most_places, Low, Stored, remainder}
use Rattle.multipliers.specs.Multipliers.{multiplier}
use Rattle.multipliers.proofs.Multipliers.{missing_sum}
use Rattle.tables.specs.Tables.{table_size, Table}
use Rattle.filling.specs.Filling.{term, Summable, Summed, listed_at, Fillable, FilledRun, Filled, InRun, InLayers, Below, Everywhere}
use Rattle.filling.proofs.Runs.{layers_split, layers_before, layers_here, runs_split}

-- a place of another row is outside a run of places of row i
pub apart : (each i k p place run : ℕ) → k ≢ i → p < each → place + run ≤ each → (k * each + p < i * each + place) ⊎ (i * each + place + run ≤ k * each + p)
apart each i k p place run d h l = go (below_or_not k i)
  where
    go : (k < i) ⊎ (i ≤ k) → (k * each + p < i * each + place) ⊎ (i * each + place + run ≤ k * each + p)
    go (inl g) = inl (omega (arith, mul-le-mul_right each (let z : k + 1 ≤ i = omega arith in z)))
    go (inr g) = inr (omega (arith, mul-le-mul_right each (let z : i + 1 ≤ k = omega (arith, d) in z)))

module _ (n each place run : ℕ) (list table before : List ℕ) (given : Fillable n each list before) (fits : place + run ≤ each) where
  module _ (m : ℕ) (now : List ℕ) (so_far : FilledRun n each place run list table m before now) where
    -- a listed node is kept
    pub filled_run_skip : member m list ≡ true → FilledRun n each place run list table (m + 1) before now
    filled_run_skip e = record { long = so_far.long; there = λ a w i t h u l. go a w i t h u l (ℕ_discrete i m); kept = so_far.kept; others = so_far.others }
      where
        go : (a : ℕ) → Table n a run list n table → (i t : ℕ) → i < m + 1 → member i list ≡ false → t < run → Dec (i ≡ m)
            → get_or now (i * each + (place + t)) 0 ≡ get_or (completed narrow.modulus (points narrow n (a + t)) list (listed_at each list before (place + t))) i 0
        go a w i t h u l (yes d) = absurd (true≢false (sym e ∙ ap (λ k. member k list) (sym d) ∙ u))
        go a w i t h u l (no d) = so_far.there a w i t (omega arith) u l

    -- what the listed nodes hold is still there to be summed
    pub fill_summable : Low narrow.modulus table → run ≤ most_places → (m * length list + length list) * most_places ≤ length table
        → Summable run each place list table (m * length list) now
    fill_summable low few room = record {
      few = few;
      short = omega (arith, rising_fits n list given.up, given.high);
      low = low;
      room = room;
      inside = λ j h. omega (arith, so_far.long, given.long, mul-le-mul_right each (let z : get_or list j 0 + 1 ≤ n = omega (arith, rising_below n list given.up j h) in z));
      small = λ j t h l.
          rw (ap (λ k. get_or now k 0) (let z : get_or list j 0 * each + place + t ≡ get_or list j 0 * each + (place + t) = omega arith in z)
          ∙ so_far.kept (get_or list j 0) (place + t) (member_of list j h) (omega arith))
          (unfold listed_at in given.small j (place + t) h (omega arith));
    }

    -- and another node is filled in
    module _ (within : m < n) (unlisted : member m list ≡ false) (sums after : List ℕ)
        (summed : Summed run each place list table (m * length list) now (length list) sums)
        (put : Stored (m * each + place) run (remainder narrow.modulus sums) now after) where
      good : GoodCode narrow n
      good = good_fewer narrow most_nodes n given.high narrow_good

      elsewhere : (i p : ℕ) → p < each → i ≢ m → get_or after (i * each + p) 0 ≡ get_or now (i * each + p) 0
      elsewhere i p h d = go (apart each m i p place run d h fits)
        where
          go : (i * each + p < m * each + place) ⊎ (m * each + place + run ≤ i * each + p) → get_or after (i * each + p) 0 ≡ get_or now (i * each + p) 0
          go (inl l) = put.ahead _ l
          go (inr l) = put.behind _ l

      here : (a : ℕ) → Table n a run list n table → (t : ℕ) → t < run
          → get_or after (m * each + (place + t)) 0 ≡ get_or (completed narrow.modulus (points narrow n (a + t)) list (listed_at each list before (place + t))) m 0
      unfolding remainder term listed_at
      here a w t h =
          ap (λ k. get_or after k 0) (let z : m * each + (place + t) ≡ m * each + place + t = omega arith in z) ∙ put.there t h
          ∙ ap (λ k. k % narrow.modulus) (summed.each_sum t h ∙ sum_ext (length list) _ _ same)
          ∙ sym
          (missing_sum narrow.modulus good.prime (points narrow n (a + t)) (points_good narrow n good (a + t)) list (rw (points_length narrow n (a + t)) given.up) m
          (rw (points_length narrow n (a + t)) within) unlisted (listed_at each list before (place + t)) (λ j l. given.small j (place + t) l (omega arith)))
        where
          same : (j : ℕ) → j < length list
              → get_or table ((m * length list + j) * most_places + t) 0 * get_or now (get_or list j 0 * each + place + t) 0
              ≡ multiplier narrow.modulus (points narrow n (a + t)) list m j * get_or before (get_or list j 0 * each + (place + t)) 0
          same j l =
              ap₂ ◌*◌ ((w.each m j within unlisted l).each t h)
              (ap (λ k. get_or now k 0) (let z : get_or list j 0 * each + place + t ≡ get_or list j 0 * each + (place + t) = omega arith in z)
              ∙ so_far.kept (get_or list j 0) (place + t) (member_of list j l) (omega arith))

      pub filled_run_more : FilledRun n each place run list table (m + 1) before after
      filled_run_more = record {
        long = put.long ∙ so_far.long;
        there = λ a w i t h u l. go a w i t h u l (ℕ_discrete i m);
        kept = λ i p e h. elsewhere i p h (λ d. true≢false (sym e ∙ ap (λ k. member k list) d ∙ unlisted)) ∙ so_far.kept i p e h;
        others = λ i p h l. beside i p h l (ℕ_discrete i m) ∙ so_far.others i p h l;
      }
        where
          go : (a : ℕ) → Table n a run list n table → (i t : ℕ) → i < m + 1 → member i list ≡ false → t < run → Dec (i ≡ m)
              → get_or after (i * each + (place + t)) 0 ≡ get_or (completed narrow.modulus (points narrow n (a + t)) list (listed_at each list before (place + t))) i 0
          go a w i t h u l (yes d) = rw d (here a w t l)
          go a w i t h u l (no d) = elsewhere i (place + t) (omega arith) d ∙ so_far.there a w i t (omega arith) u l

          beside : (i p : ℕ) → p < each → (p < place) ⊎ (place + run ≤ p) → Dec (i ≡ m) → get_or after (i * each + p) 0 ≡ get_or now (i * each + p) 0
          beside i p h (inl l) (yes d) = put.ahead _ (omega (arith, ap (λ k. k * each) d))
          beside i p h (inr l) (yes d) = put.behind _ (omega (arith, ap (λ k. k * each) d))
          beside i p h l (no d) = elsewhere i p h d

-- the rows of node i lie in the table, and its places in the buffer
pub table_room : (n each i : ℕ) (list nodes : List ℕ) → Fillable n each list nodes → i < n → (i * length list + length list) * most_places ≤ table_size
table_room n each i list nodes w h =
    omega (
      arith,
      mul-le-mul_right (length list) (let z : i + 1 ≤ most_nodes = omega (arith, w.high) in z),
      rising_fits n list w.up,
      w.high,
    )

pub row_room : (n each i place run : ℕ) → i < n → place + run ≤ each → i * each + place + run ≤ n * each
row_room n each i place run h l = omega (arith, mul-le-mul_right each (let z : i + 1 ≤ n = omega arith in z))

-- ---- all layers and all a

-- a layer's places lie within a node, and a node has few
pub layer_room : (s : Shape) (a run layer two : ℕ) → shape_bad s ≡ false → a + run ≤ 2 ^ s.n → layer < s.layers → two ≡ 2 ^ s.n
    → (layer * two + a + run ≤ s.layers * two) × (s.layers * two ≤ most_size)
unfolding size
layer_room s a run layer two good fits within e =
    (omega (arith, e, fits, mul-le-mul_right two (let z : layer + 1 ≤ s.layers = omega arith in z)), rw e (shape_accepted s good).size_high)

module _ (n each : ℕ) (list before : List ℕ) where
  pub filled_none : (Done : ℕ → Type 0) → ((p : ℕ) → p < each → Done p → ⊥) → Filled n each list Done before before
  filled_none Done never = record { long = refl; there = λ i p h u l d. absurd (never p l d); kept = λ i p e h. refl; others = λ i p h d. refl }

  -- the same places
  pub filled_same : (Done Done' : ℕ → Type 0) (after : List ℕ) → ((p : ℕ) → p < each → Done' p → Done p) → ((p : ℕ) → p < each → Done p → Done' p)
      → Filled n each list Done before after → Filled n each list Done' before after
  filled_same Done Done' after f g w = record {
    long = w.long;
    there = λ i p h u l d. w.there i p h u l (f p l d);
    kept = w.kept;
    others = λ i p h d. w.others i p h (λ z. d (g p h z));
  }

  -- places more
  pub filled_more : (Done More All : ℕ → Type 0) (now after : List ℕ) → Filled n each list Done before now → Filled n each list More now after
      → ((j : ℕ) → j < length list → get_or list j 0 < n)
      → ((p : ℕ) → p < each → All p → More p ⊎ (Done p × (More p → ⊥))) → ((p : ℕ) → p < each → Done p → All p) → ((p : ℕ) → p < each → More p → All p)
      → Filled n each list All before after
  filled_more Done More All now after w v below split in₁ in₂ = record {
    long = v.long ∙ w.long;
    there = λ i p h u l d. go i p h u l (split p l d);
    kept = λ i p e h. v.kept i p e h ∙ w.kept i p e h;
    others = λ i p h d. v.others i p h (λ z. d (in₂ p h z)) ∙ w.others i p h (λ z. d (in₁ p h z));
  }
    where
      same : (p : ℕ) → p < each → (j : ℕ) → j < length list → listed_at each list now p j ≡ listed_at each list before p j
      same p l j g = unfold listed_at in w.kept (get_or list j 0) p (member_of list j g) l

      go : (i p : ℕ) → i < n → member i list ≡ false → p < each → More p ⊎ (Done p × (More p → ⊥))
          → get_or after (i * each + p) 0 ≡ get_or (completed narrow.modulus (points narrow n (p % 2 ^ n)) list (listed_at each list before p)) i 0
      go i p h u l (inl d) =
          v.there i p h u l d
          ∙ ap (λ c. get_or c i 0)
          (completed_ext narrow.modulus (points narrow n (p % 2 ^ n)) list _ _ (λ j g. same p l j g))
      go i p h u l (inr d) = v.others i p l d.1 ∙ w.there i p h u l d.0

-- a run of places of one layer
pub run_filled : (n each layer a run : ℕ) (list table before after : List ℕ) → a + run ≤ 2 ^ n → Table n a run list n table
    → FilledRun n each (layer * 2 ^ n + a) run list table n before after → Filled n each list (InRun (layer * 2 ^ n + a) run) before after
run_filled n each layer a run list table before after h w v = record {
  long = v.long;
  there = λ i p l u g d.
      let t = p - (layer * 2 ^ n + a) in
      let e : p ≡ layer * 2 ^ n + a + t = omega arith in
      let b : t < run = omega arith in
      let m : p % 2 ^ n ≡ a + t = ap (λ k. k % 2 ^ n) (let z : p ≡ layer * 2 ^ n + (a + t) = omega arith in z) ∙ digits_mod layer (omega arith) in
      rw m (ap (λ k. get_or after (i * each + k) 0) e ∙ v.there a w i t l u b ∙ ap (λ k. get_or (completed narrow.modulus (points narrow n (a + t)) list (listed_at each list before k)) i 0) (sym e));
  kept = v.kept;
  others = λ i p l d. v.others i p l (outside p d);
}
  where
    outside : (p : ℕ) → (InRun (layer * 2 ^ n + a) run p → ⊥) → (p < layer * 2 ^ n + a) ⊎ (layer * 2 ^ n + a + run ≤ p)
    outside p d = go (below_or_not p (layer * 2 ^ n + a)) (below_or_not p (layer * 2 ^ n + a + run))
      where
        go : (p < layer * 2 ^ n + a) ⊎ (layer * 2 ^ n + a ≤ p) → (p < layer * 2 ^ n + a + run) ⊎ (layer * 2 ^ n + a + run ≤ p)
            → (p < layer * 2 ^ n + a) ⊎ (layer * 2 ^ n + a + run ≤ p)
        go (inl l) g = inl l
        go (inr l) (inr g) = inr g
        go (inr l) (inl g) = absurd (d (l, g))

module _ (n layers a run : ℕ) (list : List ℕ) (up : rising 0 n list ≡ true) (h : a + run ≤ 2 ^ n) (pos : 0 < 2 ^ n) where
  pub layers_more : (each layer : ℕ) (before now after : List ℕ) → Filled n each list (InLayers (2 ^ n) a run layer) before now
      → Filled n each list (InRun (layer * 2 ^ n + a) run) now after → Filled n each list (InLayers (2 ^ n) a run (layer + 1)) before after
  layers_more each layer before now after w v =
      filled_more n each list before _ _ _ now after w v (rising_below n list up) (λ p l. layers_split (2 ^ n) a run h layer p) (λ p l. layers_before (2 ^ n) a run h layer p) (λ p l. layers_here (2 ^ n) a run h layer p)

module _ (n layers run : ℕ) (list : List ℕ) (up : rising 0 n list ≡ true) where
  pub blocks_none : (each : ℕ) (before : List ℕ) → Filled n each list (Below (2 ^ n) (0 * run)) before before
  blocks_none each before = filled_none n each list before _ (λ p l d. absurd (omega (arith, d)))

  pub blocks_more : (block : ℕ) (before now after : List ℕ) → Filled n (layers * 2 ^ n) list (Below (2 ^ n) (block * run)) before now
      → Filled n (layers * 2 ^ n) list (InLayers (2 ^ n) (block * run) run layers) now after → Filled n (layers * 2 ^ n) list (Below (2 ^ n) ((block + 1) * run)) before after
  blocks_more block before now after w v =
      filled_more n (layers * 2 ^ n) list before _ _ _ now after w v (rising_below n list up) (λ p l d. runs_split (2 ^ n) layers (block * run) run p l (omega (arith, d))) (λ p l d. omega (arith, d))
      (λ p l d. omega (arith, d.1))

  pub blocks_end : (each blocks : ℕ) (before after : List ℕ) → blocks * run ≡ 2 ^ n → 0 < 2 ^ n → Filled n each list (Below (2 ^ n) (blocks * run)) before after
      → Filled n each list Everywhere before after
  blocks_end each blocks before after e pos w = filled_same n each list before _ _ after (λ p l d. rw e (mod-lt p pos)) (λ p l d. tt) w

-- the listed nodes hold what they held
pub still_fillable : (n each : ℕ) (list before now : List ℕ) (Done : ℕ → Type 0) → Fillable n each list before → Filled n each list Done before now → Fillable n each list now
unfolding listed_at
still_fillable n each list before now Done w v = record {
  high = w.high;
  up = w.up;
  long = v.long ∙ w.long;
  small = λ j p h l. rw (v.kept (get_or list j 0) p (member_of list j h) l) (w.small j p h l);
}

-- a layer's places are whole runs of 64, unless they are fewer
whole_runs : (n : ℕ) → 64 ≤ 2 ^ n → 2 ^ n / 64 * 64 ≡ 2 ^ n
whole_runs n h = go (below_or_not n 6)
  where
    go : (n < 6) ⊎ (6 ≤ n) → 2 ^ n / 64 * 64 ≡ 2 ^ n
    go (inl l) = absurd (omega (arith, pow_mono (let z : n ≤ 5 = omega arith in z)))
    go (inr l) =
        let e : 2 ^ n ≡ 2 ^ (n - 6) * 64 = ap (λ k. 2 ^ k) (let z : n ≡ n - 6 + 6 = omega arith in z) ∙ pow-add 2 (n - 6) 6 in
        omega (arith, e)

-- the places of a run
pub runs_of : (n r : ℕ) → r ≡ min (2 ^ n) 64 → (0 < r) × (r ≤ most_places) × (2 ^ n / r * r ≡ 2 ^ n)
runs_of n r e = go (below_or_not (2 ^ n) 64)
  where
    two : ℕ
    two = 2 ^ n

    pos : 0 < two
    pos = pow_pos n

    go : (2 ^ n < 64) ⊎ (64 ≤ 2 ^ n) → (0 < r) × (r ≤ most_places) × (2 ^ n / r * r ≡ 2 ^ n)
    go (inl l) =
        let z : r ≡ two = omega (arith, e) in
        (omega (arith, pos, z), omega (arith, e), rw z (ap (λ k. k * two) (div_self pos) ∙ omega arith))
    go (inr l) =
        let z : r ≡ 64 = omega (arith, e) in
        (omega (arith, z), omega (arith, z), rw z (whole_runs n l))

-- a run of places lies within a layer
pub block_room : (two run n block : ℕ) → two ≡ 2 ^ n → 2 ^ n / run * run ≡ 2 ^ n → block < two / run → block * run + run ≤ 2 ^ n
block_room two run n block t whole l =
    let e : two / run * run ≡ 2 ^ n = ap (λ k. k / run * run) t ∙ whole in
    omega (arith, e, mul-le-mul_right run (let z : block + 1 ≤ two / run = omega arith in z))
