-- Causes 4 and 9 of stretches, one stretch after the other, and cause 5, a run of columns after the other.
use mathlib.Core.Path.{◌≡◌, sym, ap, ◌∙◌}
use mathlib.Core.Logic.{◌⊎◌, inl, inr}
use mathlib.Core.Bool.{true, false, not, ◌||◌}
use mathlib.Core.List.{List}
use Prim.Native.Nat.{ℕ, zero, suc, ◌+◌, ◌-◌, ◌*◌, ◌%◌, ◌^◌, ◌≤◌, ◌<◌}
use native.Mathlib.Nat.{mul-le-mul}
use native.Mathlib.Omega.{arith}
use borrow.Author.Tests.{le-leb, leb-true, ne_eqb, eq-eqb, not-false, ltb-false, eqb-true}
use lib.Dec.{eqb, ltb}
use lib.ListN.{length, get_or, take, drop, length-drop}
use lib.Seq.{get_or-take, get_or-drop, length-take-le}
use Rattle.lists.specs.Lists.{range, picked}
use Rattle.lists.proofs.Ranges.{every, each}
use Rattle.lists.proofs.Tests.{neither, below_or_not, true_or_false, all_below_at, at_all_below, at_all}
use Rattle.lists.proofs.Tables.{tabulate_length, tabulate_at}
use Rattle.lists.proofs.Members.{all_member}
use Rattle.lists.proofs.Picked.{keep_member}
use Rattle.lists.proofs.Members.{range_member}
use Rattle.shape.specs.declared.Shape.{Shape}
use Rattle.shape.specs.Shape.{size, most_nodes}
use Rattle.shape.specs.Refusals.{shape_bad, wrong_length, symbol_bad}
use Rattle.shape.proofs.Accepted.{shape_accepted, symbols_accepted, symbols_low}
use Rattle.code.specs.Code.{Code}
use Rattle.code.specs.Archive.{symbol}
use Rattle.stretches.specs.Stretches.{most_stretches, stretch_count, stretch_start, stretch_length, bytes_before, bytes_wanted, touched, touched_columns}
use Rattle.stretches.specs.Refusals.{stretches_bad, ends_within, past_end, low_column, touched_bad}
use Rattle.stretches.specs.Steps.{Bounded, Wanted}
use Rattle.stretches.proofs.Touching.{columns_at}
use Rattle.stretches.proofs.Wanted.{before_none, before_more, before_grows}

module _ (st : List ℕ) where
  -- what a list of stretches is that is not refused
  pub stretches_accepted : (room : ℕ) → stretches_bad st room ≡ false → (length st ≤ 2 * most_stretches) × (room ≡ bytes_wanted st)
  unfolding stretches_bad wrong_length
  stretches_accepted room e =
      let (a, c) = neither (ltb (2 * most_stretches) (length st) || not (eqb (length st % 2) 0)) _ e in
      (ltb-false (2 * most_stretches) (length st) (neither (ltb (2 * most_stretches) (length st)) _ a).0, eqb-true room (bytes_wanted st) (not-false _ c))

  -- ---- 4: the lengths taken off the room

  module _ (room left m : ℕ) (e : left + bytes_before st m ≡ room) where
    pub room_more : stretch_length st m ≤ left → left - stretch_length st m + bytes_before st (m + 1) ≡ room
    room_more h = omega (arith, e, before_more st m)

    pub room_short : m < stretch_count st → left < stretch_length st m → true ≡ wrong_length room (bytes_wanted st)
    unfolding wrong_length bytes_wanted
    room_short h l = sym (ap not (ne_eqb room _ (λ z. omega (arith, e, z, before_grows st m (stretch_count st) h))))

    pub room_end : m ≡ stretch_count st → not (eqb left 0) ≡ wrong_length room (bytes_wanted st)
    unfolding wrong_length bytes_wanted
    room_end h = ap not (go (below_or_not 0 left))
      where
        d : left + bytes_before st (stretch_count st) ≡ room
        d = rw h at e

        go : (0 < left) ⊎ (left ≤ 0) → eqb left 0 ≡ eqb room (bytes_before st (stretch_count st))
        go (inl l) = ne_eqb left 0 (λ z. omega arith) ∙ sym (ne_eqb room _ (λ z. omega (arith, d, z)))
        go (inr l) = eq-eqb left 0 (omega arith) ∙ sym (eq-eqb room _ (omega (arith, d)))

  -- ---- 9: the ends

  abbrev pub EndWithin : ℕ → ℕ → Type 0
  EndWithin len m = stretch_start st m + stretch_length st m ≤ len

  module _ (len : ℕ) where
    pub none_past : ((m : ℕ) → m < stretch_count st → EndWithin len m) → false ≡ past_end st len
    unfolding past_end ends_within
    none_past h = sym (ap not (each (ends_within st len) (stretch_count st) (λ m l. le-leb _ len (h m l))))

    pub past_none : past_end st len ≡ false → (m : ℕ) → m < stretch_count st → EndWithin len m
    unfolding past_end ends_within
    past_none e m l = leb-true _ len (every (ends_within st len) (stretch_count st) (not-false _ e) m l)

    pub one_past : (m : ℕ) → m < stretch_count st → len < stretch_start st m + stretch_length st m → true ≡ past_end st len
    one_past m l h = go (true_or_false (past_end st len))
      where
        go : (past_end st len ≡ true) ⊎ (past_end st len ≡ false) → true ≡ past_end st len
        go (inl e) = sym e
        go (inr e) = absurd (omega (arith, past_none e m l))

  -- ---- bounds

  pub bounded_weak : (most more : ℕ) → most ≤ more → Bounded st most → Bounded st more
  bounded_weak most more h w = record { few = w.few; ends = λ m l. omega (arith, w.ends m l) }

  -- the bytes before a stretch are no more than the stretches before it allow
  pub before_small : (most : ℕ) → Bounded st most → (m : ℕ) → m ≤ stretch_count st → bytes_before st m ≤ m * most
  before_small most w zero h = omega (arith, before_none st)
  before_small most w (suc m) h =
      let z : suc m ≡ m + 1 = omega arith in
      omega (arith, ap (bytes_before st) z, before_more st m, before_small most w m (omega arith), w.ends m (omega arith))

  pub wanted_bounded : (most : ℕ) → Bounded st most → (y : ℕ) → Wanted st y → y < most
  wanted_bounded most w y (m, h, i) = omega (arith, w.ends m h, i.1)

-- the numbers of a shape are small
pub record Small (s : Shape) : Type 0 where
  pub bytes : s.k * size s < 2 ^ 32
  pub places : size s < 2 ^ 32
  pub layer : 2 ^ s.n < 2 ^ 32
  pub some : 0 < size s

pub shape_small : (s : Shape) → shape_bad s ≡ false → Small s
shape_small s e =
    let w = shape_accepted s e in
    let z : s.k ≤ most_nodes = omega (arith, w.k_high, w.n_high) in
    record { bytes = omega (arith, mul-le-mul z w.size_high); places = omega (arith, w.size_high); layer = omega (arith, w.places_high); some = w.size_low }

-- ---- 5: a run of symbols, and the touched columns

module _ (q : ℕ) (symbols : List ℕ) (from to : ℕ) (h : from ≤ to) (l : to ≤ length symbols) where
  part : List ℕ
  part = take (to - from) (drop from symbols)

  part_length : length part ≡ to - from
  unfolding part
  part_length = length-take-le (to - from) (drop from symbols) (omega (arith, length-drop from symbols))

  part_at : (e : ℕ) → from ≤ e → e < to → get_or part (e - from) 0 ≡ get_or symbols e 0
  unfolding part
  part_at e low high =
      get_or-take (to - from) (drop from symbols) (e - from) 0 (omega arith) ∙ get_or-drop from symbols (e - from) 0
      ∙ ap (λ z. get_or symbols z 0) (let z : from + (e - from) ≡ e = omega arith in z)

  pub part_low : symbol_bad q (take (to - from) (drop from symbols)) ≡ false → (e : ℕ) → from ≤ e → e < to → get_or symbols e 0 < q
  unfolding part
  part_low b e low high = rw (← part_at e low high) (symbols_accepted q part b (e - from) (omega (arith, part_length)))

  pub low_part : ((e : ℕ) → from ≤ e → e < to → get_or symbols e 0 < q) → symbol_bad q (take (to - from) (drop from symbols)) ≡ false
  unfolding part
  low_part low = symbols_low q part (λ x g.
      let z : from + x - from ≡ x = omega arith in
      let y : x < to - from = rw part_length at g in
      rw (← z, part_at (from + x) (omega arith) (omega arith)) (low (from + x) (omega arith) (omega arith)))

module _ (c : Code) (s : Shape) (symbols st : List ℕ) where
  -- what the k nodes hold at touched columns is below the modulus
  abbrev pub AllLow : Type 0
  AllLow = (j column : ℕ) → j < s.k → column < size s → touched s st column ≡ true → symbol s symbols j column < c.modulus

  pub touched_low : AllLow → touched_bad c s symbols st ≡ false
  unfolding touched_bad low_column
  touched_low low = ap not (at_all (low_column c s symbols) (touched_columns s st) (λ x h.
      at_all_below c.modulus _ (λ j l.
      let g : j < s.k = rw (tabulate_length s.k (λ j. symbol s symbols j (get_or (touched_columns s st) x 0))) at l in
      let w = columns_at s st x h in
      rw (tabulate_at s.k (λ j. symbol s symbols j (get_or (touched_columns s st) x 0)) j 0 g) (low j (get_or (touched_columns s st) x 0) g w.0 w.1))))

  pub low_touched : touched_bad c s symbols st ≡ false → AllLow
  unfolding touched_bad low_column touched_columns picked
  low_touched e j column h l t =
      rw (← tabulate_at s.k (λ j. symbol s symbols j column) j 0 h)
      (all_below_at c.modulus _ (all_member (low_column c s symbols) (touched_columns s st) (not-false _ e) column
      (keep_member (touched s st) (range 0 (size s)) column t (range_member (size s) column l))) j (rw (tabulate_length s.k (λ j. symbol s symbols j column)) h))

  pub touched_high : (AllLow → ⊥) → touched_bad c s symbols st ≡ true
  touched_high off = go (true_or_false (touched_bad c s symbols st))
    where
      go : (touched_bad c s symbols st ≡ true) ⊎ (touched_bad c s symbols st ≡ false) → touched_bad c s symbols st ≡ true
      go (inl e) = e
      go (inr e) = absurd (off (low_touched e))
