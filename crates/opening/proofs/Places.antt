-- What stands at the data symbols' places: the symbols of listed nodes, and sums by the table's multipliers.
use mathlib.Core.Path.{◌≡◌, refl, sym, ap, ap₂, ◌∙◌, subst}
use mathlib.Core.Logic.{◌⊎◌, inl, inr}
use mathlib.Core.Bool.{Bool, true, false, false≢true}
use mathlib.Core.List.{List}
use Prim.Native.Nat.{ℕ, ◌+◌, ◌-◌, ◌*◌, ◌/◌, ◌%◌, ◌^◌, ◌≤◌, ◌<◌}
use native.Mathlib.Nat.{mul-le-mul_right}
use native.Mathlib.Omega.{arith}
use lib.Arith.{digits_lt, digits_div, digits_mod}
use lib.ListN.{length, get_or, take, drop, length-drop}
use lib.Seq.{get_or-take, get_or-drop, length-take-le}
use Rattle.lists.specs.Lists.{range, member, position}
use Rattle.lists.proofs.Tests.{true_or_false}
use Rattle.lists.specs.Sums.{sum}
use Rattle.lists.proofs.Tables.{range_at, range_length}
use Rattle.lists.proofs.Members.{at_position, rising_in_order}
use Rattle.lists.proofs.Places.{place_of}
use Rattle.lists.proofs.Sums.{sum_ext}
use Rattle.shape.specs.declared.Shape.{Shape}
use Rattle.shape.specs.Shape.{most_nodes, size}
use Rattle.shape.specs.Refusals.{shape_bad}
use Rattle.shape.proofs.Accepted.{Shaped, shape_accepted}
use Rattle.rows.specs.Rows.{most_places, Low}
use Rattle.code.specs.Code.{narrow, GoodCode}
use Rattle.code.specs.Archive.{symbol, restored, data_of}
use Rattle.code.proofs.Restored.{Given, restored_holds}
use Rattle.code.proofs.Opened.{opened_restored}
use Rattle.code.proofs.Accepted.{narrow_accepted}
use Rattle.tables.specs.Tables.{table_size, Table}
use Rattle.filling.specs.Filling.{InRun, term, Summable, Summed}
use Rattle.filling.proofs.Filling.{row_room}
use Rattle.factors.specs.Factors.{factor, weighed}
use Rattle.opening.specs.Steps.{Readable, opened, Factors, Walked, OneOf, OfListed, AtBlock, Missing, AllData, AllListed}
use Rattle.factors.proofs.Factors.{factor_missing, opened_sum}
use Rattle.opening.proofs.Walking.{walked_as, walked_then}

module _ (s : Shape) (list symbols : List ℕ) where
  opened_at : (i p : ℕ) → p < size s → opened s list symbols (i * size s + p) ≡ weighed narrow s symbols (factor narrow s.n list (p % 2 ^ s.n) i) p
  unfolding opened
  opened_at i p l = ap₂ (λ x y. weighed narrow s symbols (factor narrow s.n list (y % 2 ^ s.n) x) y) (digits_div i l) (digits_mod i l)

  -- ---- a node that is not listed, at a run of places

  module _ (place run : ℕ) (fits : place + run ≤ size s) (table : List ℕ) where
    pub missing_weighed : (i : ℕ) (sums : List ℕ) → i < s.k → member i list ≡ false → Factors s list table place run
        → Summed run (size s) place (range 0 s.k) table (i * s.k) symbols (length (range 0 s.k)) sums
        → (t : ℕ) → t < run → opened s list symbols (i * size s + place + t) ≡ get_or sums t 0 % narrow.modulus
    unfolding weighed term symbol
    missing_weighed i sums h unlisted w summed t l =
        ap (opened s list symbols) (let z : i * size s + place + t ≡ i * size s + (place + t) = omega arith in z) ∙ opened_at i (place + t) (omega arith)
        ∙ ap (λ z. z % narrow.modulus)
        (sum_ext s.k _ _ (λ j g. ap₂ ◌*◌ (sym (w.each i j t h unlisted g l)) (ap (λ z. get_or symbols z 0) (column j g)))
        ∙ sym (ap (λ z. sum z (term table (i * s.k) (range 0 s.k) (size s) place symbols t)) (range_length 0 s.k))
        ∙ sym (summed.each_sum t l))
      where
        column : (j : ℕ) → j < s.k → j * size s + (place + t) ≡ get_or (range 0 s.k) j 0 * size s + place + t
        column j g = omega (arith, ap (λ z. z * size s) (range_at 0 s.k j g))

module _ (s : Shape) (list symbols : List ℕ) (given : Readable s list symbols) where
  abbrev N : ℕ
  N = size s

  shaped : Shaped s
  shaped = shape_accepted s given.shape

  good : GoodCode narrow s.n
  good = narrow_accepted s given.shape

  whole : Given narrow s list symbols
  whole = record { code = good; nodes = given.up; count = given.count; small = given.small }

  -- the data symbols are what they are worked out as
  opened_symbol : (i p : ℕ) → i < s.k → p < N → opened s list symbols (i * N + p) ≡ symbol s (data_of narrow s list symbols) i p
  opened_symbol i p h l = opened_at s list symbols i p l ∙ sym ((opened_sum narrow s list good given.up given.count i p h l).gives symbols given.long given.small)

  pub opened_data : (e : ℕ) → e < s.k * size s → opened s list symbols e ≡ get_or (data_of narrow s list symbols) e 0
  opened_data e h =
      let p = place_of s.k N e h in
      sym (ap (opened s list symbols) p.whole) ∙ opened_symbol (e / N) (e % N) p.row p.place
      ∙ (unfold symbol in ap (λ z. get_or (data_of narrow s list symbols) z 0) p.whole)

  -- a listed node's are handed in
  pub opened_listed : (i j p : ℕ) → i < s.k → j < s.k → get_or list j 0 ≡ i → p < size s → opened s list symbols (i * size s + p) ≡ get_or symbols (j * size s + p) 0
  unfolding symbol
  opened_listed i j p h g e l =
      opened_symbol i p h l ∙ opened_restored narrow s list symbols whole (i * N + p) (digits_lt h l)
      ∙ ap (λ z. get_or (restored narrow s list symbols) (z * N + p) 0) (sym e)
      ∙ (restored_holds narrow s list symbols whole).held j p g l

  -- a row of data symbols
  pub row_opened : (len room at count : ℕ) (row before after : List ℕ) (fit : Bool) → length row ≡ count → ((t : ℕ) → t < count → opened s list symbols (at + t) ≡ get_or row t 0)
      → ((D : ℕ → ℕ) → ((t : ℕ) → t < length row → D (at + t) ≡ get_or row t 0) → Walked D len room (InRun at (length row)) before after fit)
      → Walked (opened s list symbols) len room (InRun at count) before after fit
  row_opened len room at count row before after fit long same w = rw long at (w (opened s list symbols) (λ t h. same t (rw long at h)))

  -- listed node j's, handed in
  module _ (j : ℕ) (g : j < s.k) (h : get_or list j 0 < s.k) where
    row : List ℕ
    row = take (j * N + N - j * N) (drop (j * N) symbols)

    row_length : length row ≡ N
    unfolding row
    row_length =
        length-take-le (j * N + N - j * N) (drop (j * N) symbols) (omega (arith, length-drop (j * N) symbols, given.long, mul-le-mul_right N (let z : j + 1 ≤ s.k = omega arith in z)))
        ∙ omega arith

    row_at : (t : ℕ) → t < N → opened s list symbols (get_or list j 0 * N + t) ≡ get_or row t 0
    unfolding row
    row_at t l =
        opened_listed (get_or list j 0) j t h g refl l
        ∙ sym (get_or-take (j * N + N - j * N) (drop (j * N) symbols) t 0 (omega arith) ∙ get_or-drop (j * N) symbols t 0)

    pub listed_walked : (len room : ℕ) (before after : List ℕ) (fit : Bool) →
        let row = take (j * size s + size s - j * size s) (drop (j * size s) symbols) in
        ((D : ℕ → ℕ) → ((t : ℕ) → t < length row → D (get_or list j 0 * size s + t) ≡ get_or row t 0)
        → Walked D len room (InRun (get_or list j 0 * size s) (length row)) before after fit) → Walked (opened s list symbols) len room (OfListed s list j) before after fit
    unfolding row
    listed_walked len room before after fit w =
        walked_as _ _ _ (InRun (get_or list j 0 * N) N) (OfListed s list j) before after fit (λ e d. (h, d)) (λ _ e d. d.1)
        (row_opened len room (get_or list j 0 * N) N row before after fit row_length row_at w)

  -- those of the listed and those of the others are all data symbols
  listed_data : (e : ℕ) → OneOf s.k (OfListed s list) e → AllData s e
  listed_data e (j, g, (h, (low, high))) = omega (arith, mul-le-mul_right N (let z : get_or list j 0 + 1 ≤ s.k = omega arith in z))

  data_listed : (e : ℕ) → AllData s e → member (e / N) list ≡ true → OneOf s.k (OfListed s list) e
  data_listed e h m =
      let p = place_of s.k N e h in
      let w = at_position list (e / N) m in
      (position (e / N) list, omega (arith, w.0, given.count), (rw w.1 p.row, (rw w.1 (omega (arith, p.whole)), rw w.1 (omega (arith, p.whole, p.place)))))

  pub both_walked : (len room : ℕ) (before now after : List ℕ) (first fit : Bool) → first ≡ true → Walked (opened s list symbols) len room (OneOf s.k (OfListed s list)) before now first
      → Walked (opened s list symbols) len room (Missing s list) now after fit → Walked (opened s list symbols) len room (AllData s) before after fit
  both_walked len room before now after first fit e =
      walked_then _ _ _ (OneOf s.k (OfListed s list)) (Missing s list) (AllData s) before now after first fit e to (λ i h. from i h (true_or_false (member (i / N) list)))
    where
      to : (i : ℕ) → OneOf s.k (OfListed s list) i ⊎ Missing s list i → AllData s i
      to i (inl d) = listed_data i d
      to i (inr d) = d.0

      from : (i : ℕ) → AllData s i → (member (i / N) list ≡ true) ⊎ (member (i / N) list ≡ false) → OneOf s.k (OfListed s list) i ⊎ Missing s list i
      from i h (inl m) = inl (data_listed i h m)
      from i h (inr m) = inr (h, m)

  -- where one of the listed does not fit
  pub listed_misfit : (len room : ℕ) (before after : List ℕ) (fit : Bool) → fit ≡ false → Walked (opened s list symbols) len room (OneOf s.k (OfListed s list)) before after fit
      → Walked (opened s list symbols) len room (AllData s) before after false
  listed_misfit len room before after fit e w =
      walked_as _ _ _ (OneOf s.k (OfListed s list)) (AllData s) before after false listed_data (λ z. absurd (false≢true z))
      (subst (Walked (opened s list symbols) len room (OneOf s.k (OfListed s list)) before after) e w)

  -- where the data nodes themselves are listed, all data symbols are handed in
  pub whole_data : AllListed list → (e : ℕ) → e < s.k * size s → get_or (data_of narrow s list symbols) e 0 ≡ get_or symbols e 0
  whole_data last e h =
      let p = place_of s.k N e h in
      let own = rising_in_order s.n list given.up last (e / N) (omega (arith, p.row, given.count)) in
      sym (opened_data e h) ∙ sym (ap (opened s list symbols) p.whole) ∙ opened_listed (e / N) (e / N) (e % N) p.row p.row own p.place
      ∙ ap (λ z. get_or symbols z 0) p.whole

  -- the table of a run is that of the run's places in every layer
  pub table_factors : (a run layer : ℕ) (table : List ℕ) → a + run ≤ 2 ^ s.n → Table s.n a run list s.k table → Factors s list table (layer * 2 ^ s.n + a) run
  table_factors a run layer table h w = record {
    each = λ i j t l unlisted g m.
        let e : (layer * 2 ^ s.n + a + t) % 2 ^ s.n ≡ a + t = ap (λ z. z % 2 ^ s.n) (let z : layer * 2 ^ s.n + a + t ≡ layer * 2 ^ s.n + (a + t) = omega arith in z) ∙ digits_mod layer (omega arith) in
        ap (λ z. get_or table ((i * z + j) * most_places + t) 0) (sym given.count)
        ∙ (w.each i j l unlisted (omega (arith, given.count))).each t m
        ∙ sym (factor_missing narrow s list good given.up given.count (a + t) i (omega (arith, shaped.k_high)) unlisted j)
        ∙ ap (λ z. factor narrow s.n list z i j) (sym e);
  }

-- the listed nodes' symbols can be summed
pub missing_summable : (s : Shape) (symbols table : List ℕ) (place run i : ℕ) → shape_bad s ≡ false → i < s.k → run ≤ most_places → place + run ≤ size s
    → length table ≡ table_size → Low narrow.modulus table → length symbols ≡ s.k * size s
    → ((j t : ℕ) → j < s.k → t < run → get_or symbols (j * size s + place + t) 0 < narrow.modulus)
    → Summable run (size s) place (range 0 s.k) table (i * s.k) symbols
missing_summable s symbols table place run i shape h few fits long low whole small = record {
  few = few;
  short = omega (arith, range_length 0 s.k, shaped.k_high, shaped.n_high);
  low = low;
  room = omega (
    arith,
    range_length 0 s.k,
    long,
    mul-le-mul_right s.k (let z : i + 1 ≤ most_nodes = omega (arith, shaped.k_high, shaped.n_high) in z),
    shaped.k_high,
    shaped.n_high,
  );
  inside = λ j l.
      let g : j < s.k = omega (arith, range_length 0 s.k) in
      omega (arith, ap (λ z. z * size s) (range_at 0 s.k j g), whole, row_room s.k (size s) j place run g fits);
  small = λ j t l m.
      let g : j < s.k = omega (arith, range_length 0 s.k) in
      rw (range_at 0 s.k j g, (let z : 0 + j ≡ j = omega arith in z)) (small j t g m);
}
  where
    shaped : Shaped s
    shaped = shape_accepted s shape

-- ---- all runs of all layers are all places of the nodes that are not listed

module _ (s : Shape) (list : List ℕ) (run blocks : ℕ) (whole : blocks * run ≡ 2 ^ s.n) where
  pub all_walked : (e : ℕ) → Missing s list e → OneOf blocks (AtBlock s list run) e
  unfolding size
  all_walked e (h, m) =
      let p = place_of s.k (s.layers * 2 ^ s.n) e h in
      let q = place_of s.layers (2 ^ s.n) (e % (s.layers * 2 ^ s.n)) p.place in
      let r = place_of blocks run (e % (s.layers * 2 ^ s.n) % 2 ^ s.n) (rw whole q.place) in
      (_, r.row, (_, q.row, (_, p.row, (m, (omega (arith, p.whole, q.whole, r.whole), omega (arith, p.whole, q.whole, r.whole, r.place))))))

  pub walked_all : (e : ℕ) → OneOf blocks (AtBlock s list run) e → Missing s list e
  unfolding size
  walked_all e (block, b, (layer, l, (i, h, (m, (low, high))))) =
      let b = mul-le-mul_right run (let z : block + 1 ≤ blocks = omega arith in z) in
      let c = mul-le-mul_right (2 ^ s.n) (let z : layer + 1 ≤ s.layers = omega arith in z) in
      let p = e - i * (s.layers * 2 ^ s.n) in
      let z : e ≡ i * (s.layers * 2 ^ s.n) + p = omega arith in
      let g : p < s.layers * 2 ^ s.n = omega (arith, whole) in (
        omega (arith, mul-le-mul_right (s.layers * 2 ^ s.n) (let z : i + 1 ≤ s.k = omega arith in z)),
        subst (λ k. member k list ≡ false) (sym (ap (λ k. k / (s.layers * 2 ^ s.n)) z ∙ digits_div i g)) m,
      )
