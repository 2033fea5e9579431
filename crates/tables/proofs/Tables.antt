-- Tables of multipliers, a row at a time.
use mathlib.Core.Path.{◌≡◌, refl, sym, ap, ap₂, ◌∙◌}
use mathlib.Core.Bool.{Bool, true, false, ◌||◌, true≢false}
use mathlib.Core.List.{List}
use Prim.Native.Nat.{ℕ, ◌+◌, ◌*◌, ◌%◌, ◌<◌, ◌≤◌}
use native.Mathlib.Nat.{mod-lt, mul-le-mul}
use native.Mathlib.Numerals.{add-one}
use native.Mathlib.Decide.{ℕ_discrete}
use native.Mathlib.Omega.{arith}
use lib.Arith.{digits_lt}
use lib.Dec.{eqb}
use lib.ListN.{length, get_or, replicate, length-replicate, get_or-replicate}
use Rattle.lists.specs.Lists.{element, rising}
use Rattle.field.specs.Residues.{Prime, minus, inverse}
use Rattle.inverting.specs.Inverses.{Pivots}
use Rattle.shape.specs.Shape.{most_nodes}
use Rattle.code.specs.Code.{narrow, GoodCode}
use Rattle.code.proofs.NodePoints.{good_fewer, points_length, points_at, points_good, more_length, more_at, more_behind, more_good}
use Rattle.code.proofs.Narrow.{narrow_good}
use Rattle.rows.specs.Rows.{most_places, Low, Stored, scaled, quotient}
use Rattle.rows.proofs.Rows.{stored_low, low_replicate}
use Rattle.multipliers.specs.Multipliers.{left_out, differences, multiplier}
use Rattle.multipliers.proofs.Multipliers.{differences_none, differences_left, differences_next, divisor_nonzero, inverse_only}
use Rattle.tables.specs.Tables.{points_size, table_size, point_of, opposite_of, node_points, entry_points, PointRows, Columns, Marks, DifferenceRow, RowOver, RowsOver, TableOver}

abbrev q : ℕ
q = narrow.modulus

prime : Prime narrow.modulus
prime = narrow_good.prime

good : (n : ℕ) → n ≤ most_nodes → GoodCode narrow n
good n high = good_fewer narrow most_nodes n high narrow_good

-- the points at each place differ
pub node_columns : (n : ℕ) (f : ℕ → ℕ) → n ≤ most_nodes → Columns n (node_points n f)
node_columns n f high = record { long = λ t. points_length narrow n (f t); apart = λ t. points_good narrow n (good n high) (f t) }

pub entry_columns : (n i : ℕ) (f : ℕ → ℕ) → n ≤ most_nodes → i < n → Columns (n + 1) (entry_points n i f)
entry_columns n i f high h =
    record { long = λ t. more_length narrow n (f t) i ∙ omega arith; apart = λ t. more_good narrow n (good n high) (f t) i h }

-- ---- points

pub point_rows_none : (P : ℕ → List ℕ) (run : ℕ) (rows : List ℕ) → length rows ≡ points_size → Low q rows → PointRows 0 P run rows
point_rows_none P run rows long low = record { long = long; low = low; each = λ i t h. absurd (omega arith) }

-- one row more
pub point_rows_more : (m : ℕ) (P : ℕ → List ℕ) (run : ℕ) (v : ℕ → ℕ) (before after : List ℕ) → run ≤ most_places → PointRows m P run before
    → Stored (m * most_places) run v before after → ((t : ℕ) → t < run → (v t ≡ get_or (P t) m 0) × (get_or (P t) m 0 < narrow.modulus)) → PointRows (m + 1) P run after
point_rows_more m P run v before after few w put is = record {
  long = put.long ∙ w.long;
  low = stored_low q (m * most_places) run v before after put w.low (λ t l. rw (is t l).0 (is t l).1);
  each = λ i t l g. go i t l g (ℕ_discrete i m);
}
  where
    go : (i t : ℕ) → i < m + 1 → t < run → Dec (i ≡ m) → get_or after (i * most_places + t) 0 ≡ get_or (P t) i 0
    go i t l g (yes e) = rw e (put.there t g ∙ (is t g).0)
    go i t l g (no e) = put.ahead (i * most_places + t) (omega arith) ∙ w.each i t (omega arith) g

-- a node's point, and the opposite of node i's behind the n nodes
pub point_is : (n : ℕ) (f : ℕ → ℕ) → n ≤ most_nodes → (m : ℕ) → m < n → (t : ℕ) → (point_of f m t ≡ get_or (node_points n f t) m 0) × (get_or (node_points n f t) m 0 < narrow.modulus)
unfolding point_of
point_is n f high m h t =
    (sym (points_at narrow n (f t) m h), ((node_columns n f high).apart t).below m (rw ((node_columns n f high).long t) h))

opposite_is : (n i : ℕ) (f : ℕ → ℕ) → n ≤ most_nodes → i < n → (t : ℕ) → (opposite_of f i t ≡ get_or (entry_points n i f t) n 0) × (get_or (entry_points n i f t) n 0 < narrow.modulus)
unfolding opposite_of
opposite_is n i f high h t =
    (sym (more_behind narrow n (f t) i h), ((entry_columns n i f high h).apart t).below n (rw ((entry_columns n i f high h).long t) (omega arith)))

-- the rows of a first step's entries are the nodes', and the opposite points behind them
pub entry_points_lem : (n i : ℕ) (f : ℕ → ℕ) (run : ℕ) (before after : List ℕ) → n ≤ most_nodes → i < n → run ≤ most_places → PointRows n (node_points n f) run before
    → Stored (n * most_places) run (opposite_of f i) before after → PointRows (n + 1) (entry_points n i f) run after
entry_points_lem n i f run before after high h few w put =
    point_rows_more n (entry_points n i f) run (opposite_of f i) before after few first put (λ t l. opposite_is n i f high h t)
  where
    first : PointRows n (entry_points n i f) run before
    first = record {
      long = w.long;
      low = w.low;
      each = λ m t g l. w.each m t g l ∙ points_at narrow n (f t) m g ∙ sym (more_at narrow n (f t) i m g);
    }

-- ---- differences

module _ (n run : ℕ) (few : run ≤ most_places) (rows : List ℕ) (marked : List Bool) (i x : ℕ) where
  pub differences_start : DifferenceRow n run rows marked i x 0 (replicate most_places 1)
  differences_start = record {
    long = length-replicate {A = ℕ} most_places 1;
    low = low_replicate q most_places 1 (omega arith);
    each = λ P list w v t h. get_or-replicate {A = ℕ} most_places t 1 0 (omega arith) ∙ sym (differences_none q (P t) list i (get_or (P t) x 0));
  }

  module _ (m : ℕ) (row : List ℕ) (within : m < n) (so_far : DifferenceRow n run rows marked i x m row) where
    -- entry m is left out
    pub differences_skip : (get_or marked m false || eqb m i) ≡ true → DifferenceRow n run rows marked i x (m + 1) row
    differences_skip e = record {
      long = so_far.long;
      low = so_far.low;
      each = λ P list w v t h.
          so_far.each P list w v t h
          ∙ sym (rw (add-one m) (differences_left q (P t) list i (get_or (P t) x 0) m (unfold left_out in ap (λ b. b || eqb m i) (sym (v.each m within)) ∙ e)));
    }

    -- or its difference is a factor more
    pub differences_more : (after : List ℕ) → x < n → (get_or marked m false || eqb m i) ≡ false
        → Stored 0 run (scaled narrow.modulus rows (x * most_places) (m * most_places) row) row after → DifferenceRow n run rows marked i x (m + 1) after
    unfolding scaled
    differences_more after inside e put = record {
      long = put.long ∙ so_far.long;
      low = stored_low q 0 run _ row after put so_far.low (λ t h. mod-lt _ (omega arith));
      each = λ P list w v t h.
          ap (λ k. get_or after k 0) (let z : t ≡ 0 + t = omega arith in z) ∙ put.there t h
          ∙ ap₂ (λ d z. d * z % q) (so_far.each P list w v t h) (ap₂ (minus q) (w.each x t inside h) (w.each m t within h))
          ∙ sym (rw (add-one m) (differences_next q (P t) list i (get_or (P t) x 0) m (unfold left_out in ap (λ b. b || eqb m i) (sym (v.each m within)) ∙ e)));
    }

-- ---- multipliers

module _ (n run : ℕ) (few : run ≤ most_places) (rows list : List ℕ) (marked : List Bool) (up : rising 0 n list ≡ true)
    (i : ℕ) (within : i < n) (unmarked : get_or marked i false ≡ false) where
  module _ (bottoms inverted : List ℕ) (low : Low narrow.modulus inverted) (below : DifferenceRow n run rows marked i i n bottoms)
      (inverts : Pivots narrow.modulus run (element bottoms) → (t : ℕ) → t < run → (element bottoms t * element inverted t) % narrow.modulus ≡ 1) where
    module _ (P : ℕ → List ℕ) (col : Columns n P) (w : PointRows n P run rows) (v : Marks n list marked) where
      bottom_is : (t : ℕ) → t < run → get_or bottoms t 0 ≡ differences q (P t) list i (get_or (P t) i 0) (length (P t))
      bottom_is t h = below.each P list w v t h ∙ ap (λ m. differences q (P t) list i (get_or (P t) i 0) m) (sym (col.long t))

      pivots : Pivots narrow.modulus run (element bottoms)
      pivots = record {
        prime = prime;
        small = λ t h. below.low.at t;
        nonzero = λ t h e.
            divisor_nonzero q prime (P t) (col.apart t) list (rw (col.long t) up) i (rw (col.long t) within) (sym (v.each i within) ∙ unmarked)
            (sym (bottom_is t h) ∙ e);
      }

      inverted_is : (t : ℕ) → t < run → get_or inverted t 0 ≡ inverse q (differences q (P t) list i (get_or (P t) i 0) (length (P t)))
      inverted_is t h = inverse_only q prime (get_or bottoms t 0) (get_or inverted t 0) (low.at t) (inverts pivots t h) ∙ ap (inverse q) (bottom_is t h)

      pub rows_none : (before : List ℕ) → RowsOver P run list i 0 before before
      rows_none before = record { low = λ l. l; kept = λ e h. refl; made = λ j h. absurd (omega arith) }

      pub rows_more : (j : ℕ) (tops before now after : List ℕ) → j < length list → RowsOver P run list i j before now
          → DifferenceRow n run rows marked i (get_or list j 0) n tops
          → Stored ((i * length list + j) * most_places) run (quotient narrow.modulus tops inverted) now after → RowsOver P run list i (j + 1) before after
      unfolding quotient
      rows_more j tops before now after h so_far top put = record {
        low = λ l. stored_low q _ run _ now after put (so_far.low l) (λ t m. mod-lt _ (omega arith));
        kept = λ e l. put.ahead e (omega arith) ∙ so_far.kept e l;
        made = λ m l. go m l (ℕ_discrete m j);
      }
        where
          go : (m : ℕ) → m < j + 1 → Dec (m ≡ j) → RowOver P run list after i m
          go m l (no d) = record { each = λ t g. put.ahead _ (omega arith) ∙ (so_far.made m (omega arith)).each t g }
          go m l (yes d) = record {
            each = λ t g.
                ap (λ z. get_or after ((i * length list + z) * most_places + t) 0) d ∙ put.there t g
                ∙ ap₂ (λ z s. minus q 0 z * s % q)
                (top.each P list w v t g ∙ ap (λ s. differences q (P t) list i (get_or (P t) (get_or list j 0) 0) s) (sym (col.long t)))
                (inverted_is t g)
                ∙ (unfold multiplier in ap (λ z. multiplier q (P t) list i z) (sym d));
          }

-- the rows of entry i are behind those of the entries before it
row_before : (i m k j t : ℕ) → i < m → j < k → t < most_places → (i * k + j) * most_places + t < m * k * most_places
row_before i m k j t h l g = omega (arith, digits_lt h l)

-- the rows of entry i lie in the table
pub entry_room : (n k i j run : ℕ) → n * k * most_places ≤ table_size → i < n → j < k → run ≤ most_places → (i * k + j) * most_places + run ≤ table_size
entry_room n k i j run h g m few = omega (arith, digits_lt g m)

-- the rows of n nodes do
pub nodes_room : (n k : ℕ) → n ≤ most_nodes → k ≤ n → n * k * most_places ≤ table_size
nodes_room n k h l = omega (arith, mul-le-mul h (let z : k ≤ most_nodes = omega arith in z))

pub row_room : (n k i j run : ℕ) → n ≤ most_nodes → k ≤ n → i < n → j < k → run ≤ most_places → (i * k + j) * most_places + run ≤ table_size
row_room n k i j run h l = entry_room n k i j run (nodes_room n k h l)

module _ (P : ℕ → List ℕ) (run : ℕ) (few : run ≤ most_places) (list : List ℕ) (skipped : ℕ → Bool) where
  pub table_none : (table : List ℕ) → length table ≡ table_size → Low narrow.modulus table → TableOver P run list skipped 0 table
  table_none table long low = record { long = long; low = low; each = λ i j h. absurd (omega arith) }

  -- an entry that is skipped has no rows
  pub table_skip : (m : ℕ) (table : List ℕ) → TableOver P run list skipped m table → skipped m ≡ true → TableOver P run list skipped (m + 1) table
  table_skip m table w e = record { long = w.long; low = w.low; each = λ i j h u l. go i j h u l (ℕ_discrete i m) }
    where
      go : (i j : ℕ) → i < m + 1 → skipped i ≡ false → j < length list → Dec (i ≡ m) → RowOver P run list table i j
      go i j h u l (yes d) = absurd (true≢false (sym e ∙ ap skipped (sym d) ∙ u))
      go i j h u l (no d) = w.each i j (omega arith) u l

  pub table_more : (m : ℕ) (table after : List ℕ) → length after ≡ length table → TableOver P run list skipped m table → RowsOver P run list m (length list) table after
      → TableOver P run list skipped (m + 1) after
  table_more m table after long so_far put = record {
    long = long ∙ so_far.long;
    low = put.low so_far.low;
    each = λ i j h u l. go i j h u l (ℕ_discrete i m);
  }
    where
      go : (i j : ℕ) → i < m + 1 → skipped i ≡ false → j < length list → Dec (i ≡ m) → RowOver P run list after i j
      go i j h u l (yes d) = rw d (put.made j l)
      go i j h u l (no d) = record { each = λ t g. put.kept _ (row_before i m (length list) j t (omega arith) l (omega arith)) ∙ (so_far.each i j (omega arith) u l).each t g }

  -- the same points and entries in other words
  pub table_same : (Q : ℕ → List ℕ) (passed : ℕ → Bool) (m : ℕ) (table : List ℕ) → ((t : ℕ) → t < run → P t ≡ Q t)
      → ((i : ℕ) → i < m → passed i ≡ false → skipped i ≡ false) → TableOver P run list skipped m table → TableOver Q run list passed m table
  table_same Q passed m table h g w = record {
    long = w.long;
    low = w.low;
    each = λ i j l u k. record { each = λ t s. (w.each i j l (g i l u) k).each t s ∙ ap (λ ps. multiplier q ps list i j) (h t s) };
  }
