-- Data symbols judged and stored, some after others.
use mathlib.Core.Path.{◌≡◌, refl, sym, ◌∙◌, subst}
use mathlib.Core.Logic.{◌⊎◌, inl, inr}
use mathlib.Core.Bool.{Bool, true, false, true≢false, false≢true}
use mathlib.Core.List.{List}
use Prim.Native.Nat.{ℕ, ◌+◌, ◌-◌, ◌≤◌, ◌<◌}
use native.Mathlib.Decide.{ℕ_discrete}
use native.Mathlib.Omega.{arith}
use lib.ListN.{length, get_or, take}
use lib.Seq.{get_or-take}
use Rattle.lists.specs.Lists.{element}
use Rattle.lists.proofs.Tests.{below_or_not}
use Rattle.rows.specs.Rows.{Stored}
use Rattle.code.specs.Steps.{data_fits}
use Rattle.filling.specs.Filling.{InRun}
use Rattle.opening.specs.Steps.{BeforeEnd, Walked, OneOf}

module _ (D : ℕ → ℕ) (len room : ℕ) where
  -- ---- a row

  module _ (at : ℕ) (row before : List ℕ) (same : (t : ℕ) → t < length row → D (at + t) ≡ get_or row t 0) where
    -- an element of it
    here : (e : ℕ) → InRun at (length row) e → (t : ℕ) × (t < length row) × (at + t ≡ e)
    here e d = (e - at, omega (arith, d.0, d.1), omega (arith, d.0))

    pub row_misfit : (((t : ℕ) → t < length row → data_fits len (at + t) (get_or row t 0) ≡ true) → ⊥) → Walked D len room (InRun at (length row)) before before false
    row_misfit off = record {
      long = refl;
      others = λ e. inl refl;
      fits = λ z. absurd (false≢true z);
      there = λ z. absurd (false≢true z);
      misfit = λ _ all. off (λ t h. rw (sym (same t h)) (all (at + t) (omega arith, omega arith)));
    }

    pub row_walked : (count : ℕ) (after : List ℕ) → ((t : ℕ) → t < length row → data_fits len (at + t) (get_or row t 0) ≡ true) → BeforeEnd room at (length row) count
        → Stored at count (element (take count row)) before after → Walked D len room (InRun at (length row)) before after true
    row_walked count after fit v put = record {
      long = put.long;
      others = λ e. beside e (below_or_not e at) (below_or_not e (at + count));
      fits = λ _ e d. let (t, h, z) = here e d in rw (sym z, same t h) (fit t h);
      there = λ _ e d l. let (t, h, z) = here e d in rw (sym z) (stored t h (within t h (rw (sym z) at l) (below_or_not t count)));
      misfit = λ z. absurd (true≢false z);
    }
      where
        within : (t : ℕ) → t < length row → at + t < room → (t < count) ⊎ (count ≤ t) → t < count
        within t h l (inl g) = g
        within t h l (inr g) = absurd (omega (arith, v.behind t g h))

        stored : (t : ℕ) → t < length row → t < count → get_or after (at + t) 0 ≡ D (at + t)
        stored t h g = put.there t g ∙ get_or-take count row t 0 g ∙ sym (same t h)

        beside : (e : ℕ) → (e < at) ⊎ (at ≤ e) → (e < at + count) ⊎ (at + count ≤ e) → (get_or after e 0 ≡ get_or before e 0) ⊎ ((e < room) × (get_or after e 0 ≡ D e))
        beside e (inl l) m = inl (put.ahead e l)
        beside e (inr l) (inr m) = inl (put.behind e m)
        beside e (inr l) (inl m) =
            let z : at + (e - at) ≡ e = omega arith in
            let g : e - at < count = omega arith in
            inr (rw z at (v.before (e - at) g), rw z at (stored (e - at) (omega (arith, v.few)) g))

  -- ---- one after the other

  walked_both : (First Second : ℕ → Type 0) (before now after : List ℕ) (fit : Bool) → Walked D len room First before now true → Walked D len room Second now after fit
      → Walked D len room (λ e. First e ⊎ Second e) before after fit
  walked_both First Second before now after fit w v = record {
    long = v.long ∙ w.long;
    others = λ e. beside e (v.others e) (w.others e);
    fits = λ z e d. fitted z e d;
    there = λ z e d l. stored z e l d;
    misfit = λ z all. v.misfit z (λ e d. all e (inr d));
  }
    where
      beside : (e : ℕ) → (get_or after e 0 ≡ get_or now e 0) ⊎ ((e < room) × (get_or after e 0 ≡ D e)) → (get_or now e 0 ≡ get_or before e 0) ⊎ ((e < room) × (get_or now e 0 ≡ D e))
          → (get_or after e 0 ≡ get_or before e 0) ⊎ ((e < room) × (get_or after e 0 ≡ D e))
      beside e (inr d) k = inr d
      beside e (inl d) (inl k) = inl (d ∙ k)
      beside e (inl d) (inr k) = inr (k.0, d ∙ k.1)

      kept : (e : ℕ) → get_or now e 0 ≡ D e → (get_or after e 0 ≡ get_or now e 0) ⊎ ((e < room) × (get_or after e 0 ≡ D e)) → get_or after e 0 ≡ D e
      kept e k (inl d) = d ∙ k
      kept e k (inr d) = d.1

      fitted : fit ≡ true → (e : ℕ) → First e ⊎ Second e → data_fits len e (D e) ≡ true
      fitted z e (inl d) = w.fits refl e d
      fitted z e (inr d) = v.fits z e d

      stored : fit ≡ true → (e : ℕ) → e < room → First e ⊎ Second e → get_or after e 0 ≡ D e
      stored z e l (inl d) = kept e (w.there refl e d l) (v.others e)
      stored z e l (inr d) = v.there z e d l

  -- the same data symbols; where one does not fit, more of them
  pub walked_as : (Done All : ℕ → Type 0) (before after : List ℕ) (fit : Bool) → ((e : ℕ) → Done e → All e) → (fit ≡ true → (e : ℕ) → All e → Done e)
      → Walked D len room Done before after fit → Walked D len room All before after fit
  walked_as Done All before after fit f g w = record {
    long = w.long;
    others = w.others;
    fits = λ z e d. w.fits z e (g z e d);
    there = λ z e d. w.there z e (g z e d);
    misfit = λ z all. w.misfit z (λ e d. all e (f e d));
  }

  -- first some, and then the others
  pub walked_then : (First Second All : ℕ → Type 0) (before now after : List ℕ) (first fit : Bool) → first ≡ true
      → ((e : ℕ) → First e ⊎ Second e → All e) → ((e : ℕ) → All e → First e ⊎ Second e)
      → Walked D len room First before now first → Walked D len room Second now after fit → Walked D len room All before after fit
  walked_then First Second All before now after true fit e f g w v = walked_as _ All before after fit f (λ _. g) (walked_both First Second before now after fit w v)
  walked_then First Second All before now after false fit e f g w v = absurd (false≢true e)

  -- ---- a loop of k rounds

  module _ (F : ℕ → ℕ → Type 0) (before : List ℕ) where
    pub walked_none : Walked D len room (OneOf 0 F) before before true
    walked_none = record {
      long = refl;
      others = λ e. inl refl;
      fits = λ _ e d. absurd (omega (arith, d.1));
      there = λ _ e d. absurd (omega (arith, d.1));
      misfit = λ z. absurd (true≢false z);
    }

    more : (m : ℕ) (e : ℕ) → OneOf m F e ⊎ F m e → OneOf (m + 1) F e
    more m e (inl d) = (d.0, omega (arith, d.1), d.2)
    more m e (inr d) = (m, omega arith, d)

    split : (m : ℕ) (e : ℕ) → OneOf (m + 1) F e → OneOf m F e ⊎ F m e
    split m e d = go (ℕ_discrete d.0 m)
      where
        go : Dec (d.0 ≡ m) → OneOf m F e ⊎ F m e
        go (yes g) = inr (rw g at d.2)
        go (no g) = inl (d.0, omega (arith, d.1, g), d.2)

    module _ (m : ℕ) (now : List ℕ) (w : Walked D len room (OneOf m F) before now true) where
      -- round m has nothing to do
      pub walked_skip : ((e : ℕ) → F m e → ⊥) → Walked D len room (OneOf (m + 1) F) before now true
      walked_skip none = walked_as (OneOf m F) (OneOf (m + 1) F) before now true (λ e d. more m e (inl d)) (λ _ e d. there e (split m e d)) w
        where
          there : (e : ℕ) → OneOf m F e ⊎ F m e → OneOf m F e
          there e (inl d) = d
          there e (inr d) = absurd (none e d)

      -- it goes on, or ends the loop
      module _ (after : List ℕ) (fit : Bool) (v : Walked D len room (F m) now after fit) where
        pub walked_on : fit ≡ true → Walked D len room (OneOf (m + 1) F) before after true
        walked_on e =
            subst (Walked D len room (OneOf (m + 1) F) before after) e
            (walked_as _ (OneOf (m + 1) F) before after fit (more m) (λ _. split m) (walked_both (OneOf m F) (F m) before now after fit w v))

        pub walked_ends : (k : ℕ) → m < k → fit ≡ false → Walked D len room (OneOf k F) before after false
        walked_ends k h e =
            walked_as _ (OneOf k F) before after false (λ i d. wider i (more m i d)) (λ z. absurd (false≢true z))
            (subst (Walked D len room (λ i. OneOf m F i ⊎ F m i) before after) e (walked_both (OneOf m F) (F m) before now after fit w v))
          where
            wider : (i : ℕ) → OneOf (m + 1) F i → OneOf k F i
            wider i d = (d.0, omega (arith, d.1), d.2)
