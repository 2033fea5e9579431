-- Touched columns come in runs; cause 5; the list of them.
use mathlib.Core.Path.{◌≡◌, sym, ap, ◌∙◌}
use mathlib.Core.Logic.{◌⊎◌, inl, inr}
use mathlib.Core.Bool.{true, false}
use mathlib.Core.List.{List, ◌++◌}
use Prim.Native.Nat.{ℕ, ◌+◌, ◌-◌, ◌%◌, ◌≤◌, ◌<◌}
use native.Mathlib.Omega.{arith}
use lib.ListN.{length, get_or, replicate, length-append, length-replicate, get_or-replicate, get_or-append}
use lib.Seq.{ext_get_or}
use Rattle.lists.specs.Lists.{range, picked, rising}
use Rattle.lists.proofs.Tests.{below_or_not, true_or_false}
use Rattle.lists.proofs.Tables.{range_length, range_at, at_behind}
use Rattle.lists.proofs.Picked.{picked_none, picked_run, picked_gap, keep_at, keep_rises}
use Rattle.lists.proofs.Members.{Rises, rises_at, rises_rising, range_rises}
use Rattle.lists.proofs.Others.{rising_fits}
use Rattle.shape.specs.declared.Shape.{Shape}
use Rattle.shape.specs.Shape.{size}
use Rattle.rows.specs.Rows.{Stored}
use Rattle.stretches.specs.Stretches.{touched, touched_columns, column_list}
use Rattle.stretches.specs.Steps.{Wanted, Uncut, NextWanted}
use Rattle.stretches.proofs.Wanted.{wanted_touches, touched_wanted}
use Rattle.stretches.proofs.Runs.{leaves_on, uncut_whole, wanted_on, begins}

module _ (s : Shape) (st : List ℕ) (most at end : ℕ) (u : Uncut st (size s) at end) where
  -- a run from a wanted byte's column on
  pub run_touched : (b p : ℕ) → NextWanted st (size s) at 0 most b → b < most → at ≤ p → p < end → touched s st p ≡ true
  run_touched b p w h low high =
      let t = p - at in
      let e : (b + t) % size s ≡ p = leaves_on (size s) b t (omega (arith, w.leaves h, u.upto)) ∙ omega (arith, w.leaves h) in
      rw (← e) (wanted_touches st s (b + t)
      (wanted_on st b (end - at) (uncut_whole st (size s) at end u b (end - at) (w.leaves h) (omega (arith, u.on))) t (omega (arith, u.on)) (w.there h)))

  pub run_untouched : ((y : ℕ) → Wanted st y → y < most) → (b p : ℕ) → NextWanted st (size s) at 0 most b → most ≤ b → at ≤ p → p < end → touched s st p ≡ false
  run_untouched bounded b p w h low high = go (true_or_false (touched s st p))
    where
      go : (touched s st p ≡ true) ⊎ (touched s st p ≡ false) → touched s st p ≡ false
      go (inr z) = z
      go (inl z) =
          let (y, wanted, e) = touched_wanted st s p z in
          let (c, _, leaves, first) = begins st (size s) at end u (end - at) (omega (arith, u.on)) y (omega (arith, e), omega (arith, e, u.on)) wanted in
          absurd (w.first c (omega arith) (omega (arith, bounded c first)) leaves first)

-- the touched columns rise
module _ (s : Shape) (st : List ℕ) where
  columns_rise : Rises 0 (size s) (touched_columns s st)
  unfolding touched_columns picked
  columns_rise = keep_rises (touched s st) 0 (size s) (range 0 (size s)) (range_rises 0 (size s) (size s) (omega arith))

  pub columns_rising : rising 0 (size s) (touched_columns s st) ≡ true
  columns_rising = rises_rising 0 (size s) (touched_columns s st) columns_rise

  pub columns_few : length (touched_columns s st) ≤ size s
  columns_few = rising_fits (size s) (touched_columns s st) columns_rising

  pub columns_length : length (column_list s st) ≡ size s
  unfolding column_list
  columns_length =
      length-append (touched_columns s st) (replicate (size s - length (touched_columns s st)) 0)
      ∙ omega (arith, columns_few, length-replicate {A = ℕ} (size s - length (touched_columns s st)) 0)

  pub columns_at : (x : ℕ) → x < length (touched_columns s st) → (get_or (touched_columns s st) x 0 < size s) × (touched s st (get_or (touched_columns s st) x 0) ≡ true)
  columns_at x h = ((rises_at 0 (size s) (touched_columns s st) x columns_rise h).1, (unfold touched_columns in (unfold picked in keep_at (touched s st) (range 0 (size s)) x h)))

-- ---- the list of touched columns

-- those below `at` stand in front
pub record ColumnsTo (s : Shape) (st : List ℕ) (at count : ℕ) (columns : List ℕ) : Type 0 where
  pub many : count ≡ length (picked (touched s st) at)
  pub few : count ≤ at
  pub held : (x : ℕ) → x < count → get_or columns x 0 ≡ get_or (picked (touched s st) at) x 0

module _ (s : Shape) (st : List ℕ) where
  pub columns_none : (columns : List ℕ) → ColumnsTo s st 0 0 columns
  columns_none columns = record { many = sym (ap length (picked_none (touched s st))); few = omega arith; held = λ x h. absurd (omega arith) }

  module _ (at end count : ℕ) (columns : List ℕ) (h : at < end) (w : ColumnsTo s st at count columns) where
    z : at + (end - at) ≡ end
    z = omega arith

    pub columns_skip : ((p : ℕ) → at ≤ p → p < end → touched s st p ≡ false) → ColumnsTo s st end count columns
    columns_skip none =
        let e : picked (touched s st) end ≡ picked (touched s st) at = rw z at (picked_gap (touched s st) at (end - at) (λ p low high. none p low (rw z at high))) in
        record { many = w.many ∙ ap length (sym e); few = omega (arith, w.few); held = λ x l. w.held x l ∙ ap (λ y. get_or y x 0) (sym e) }

    pub columns_more : (after : List ℕ) → ((p : ℕ) → at ≤ p → p < end → touched s st p ≡ true) → Stored count (end - at) (◌+◌ at) columns after
        → ColumnsTo s st end (count + (end - at)) after
    columns_more after all put = record {
      many = ap (λ y. y + (end - at)) w.many ∙ ap (λ y. length (picked (touched s st) at) + y) (sym (range_length at (end - at)))
          ∙ sym (length-append (picked (touched s st) at) (range at (end - at))) ∙ ap length (sym e);
      few = omega (arith, w.few);
      held = λ x l. held x l (below_or_not x count) ∙ ap (λ y. get_or y x 0) (sym e);
    }
      where
        e : picked (touched s st) end ≡ picked (touched s st) at ++ range at (end - at)
        e = rw z at (picked_run (touched s st) at (end - at) (λ p low high. all p low (rw z at high)))

        held : (x : ℕ) → x < count + (end - at) → (x < count) ⊎ (count ≤ x) → get_or after x 0 ≡ get_or (picked (touched s st) at ++ range at (end - at)) x 0
        held x l (inl k) =
            put.ahead x k ∙ w.held x k ∙ sym (get_or-append (picked (touched s st) at) (range at (end - at)) 0 x (omega (arith, w.many)))
        held x l (inr k) =
            ap (λ y. get_or after y 0) (let y : x ≡ count + (x - count) = omega arith in y)
            ∙ put.there (x - count) (omega arith)
            ∙ sym (range_at at (end - at) (x - count) (omega arith))
            ∙ ap (λ y. get_or (range at (end - at)) (x - y) 0) w.many
            ∙ sym (at_behind (picked (touched s st) at) (range at (end - at)) x 0 (omega (arith, w.many)))

  pub columns_end : (count : ℕ) (columns after : List ℕ) → ColumnsTo s st (size s) count columns → length columns ≡ size s
      → Stored count (length columns - count) (λ _. 0) columns after → (after ≡ column_list s st) × (count ≡ length (touched_columns s st))
  unfolding column_list touched_columns
  columns_end count columns after w long put = (ext_get_or 0 after (front ++ replicate (size s - length front) 0) same (λ x h. held x (omega (arith, put.long, long)) (below_or_not x count)), w.many)
    where
      front : List ℕ
      front = picked (touched s st) (size s)

      same : length after ≡ length (front ++ replicate (size s - length front) 0)
      same =
          put.long ∙ long ∙ omega (arith, w.many, w.few, length-append front (replicate (size s - length front) 0), length-replicate {A = ℕ} (size s - length front) 0)

      held : (x : ℕ) → x < size s → (x < count) ⊎ (count ≤ x) → get_or after x 0 ≡ get_or (front ++ replicate (size s - length front) 0) x 0
      held x h (inl k) = put.ahead x k ∙ w.held x k ∙ sym (get_or-append front (replicate (size s - length front) 0) 0 x (omega (arith, w.many)))
      held x h (inr k) =
          ap (λ y. get_or after y 0) (let y : x ≡ count + (x - count) = omega arith in y)
          ∙ put.there (x - count) (omega (arith, long))
          ∙ sym (at_behind front (replicate (size s - length front) 0) x 0 (omega (arith, w.many)) ∙ get_or-replicate (size s - length front) (x - length front) 0 0 (omega (arith, w.many)))
