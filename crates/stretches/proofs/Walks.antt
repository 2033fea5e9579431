-- Wanted bytes judged and stored: a run in all stretches that have it, the runs at some a, and all of them.
use mathlib.Core.Path.{◌≡◌, refl, sym, ap, ◌∙◌, subst}
use mathlib.Core.Logic.{◌⊎◌, inl, inr}
use mathlib.Core.Bool.{Bool, true, false, false≢true}
use mathlib.Core.List.{List}
use Prim.Native.Nat.{ℕ, ◌+◌, ◌-◌, ◌%◌, ◌≤◌, ◌<◌}
use native.Mathlib.Nat.{mod-lt}
use native.Mathlib.Decide.{ℕ_discrete}
use native.Mathlib.Omega.{arith}
use lib.ListN.{length, get_or}
use Rattle.lists.proofs.Tests.{below_or_not}
use Rattle.filling.specs.Filling.{InRun}
use Rattle.opening.specs.Steps.{Walked, OneOf}
use Rattle.opening.proofs.Walking.{walked_none, walked_as, walked_then}
use Rattle.stretches.specs.Stretches.{stretch_count, stretch_start, bytes_before, bytes_wanted}
use Rattle.stretches.specs.Steps.{InStretch, Wanted, Uncut, NextWanted, Whole, byte_at, ComeOut, AllOut}
use Rattle.stretches.proofs.Wanted.{comes_out, out_of, out_wanted}
use Rattle.stretches.proofs.Runs.{leaves_on, stretch_on, stretch_back, begins, next_later}

-- first some, and then one of the others does not fit
walked_stop : (D : ℕ → ℕ) (len room : ℕ) (First Second All : ℕ → Type 0) (before now after : List ℕ) (fit : Bool) → fit ≡ false
    → ((e : ℕ) → First e ⊎ Second e → All e) → Walked D len room First before now true → Walked D len room Second now after fit
    → Walked D len room All before after false
walked_stop D len room First Second All before now after fit z f w v =
    walked_as D len room (λ e. First e ⊎ Second e) All before after false f (λ y. absurd (false≢true y))
    (walked_then D len room First Second (λ e. First e ⊎ Second e) before now after true false refl (λ e d. d) (λ e d. d) w
    (subst (Walked D len room Second now after) z v))

-- where a run from b on comes out in stretch m, which has it
abbrev pub AtStretch : List ℕ → ℕ → ℕ → ℕ → ℕ → Type 0
AtStretch st b run m e = InStretch st b m × InRun (bytes_before st m + b - stretch_start st m) run e

-- ---- a run in all stretches

module _ (st : List ℕ) (b run : ℕ) (w : Whole st b run) where
  -- its byte t comes out there
  module _ (m : ℕ) (named : m < stretch_count st) (i : InStretch st b m) (t : ℕ) (h : t < run) where
    out : (bytes_before st m + b - stretch_start st m + t < bytes_wanted st) × (byte_at st (bytes_before st m + b - stretch_start st m + t) ≡ b + t)
    out =
        let on = stretch_on st b run w t h m named i in
        let o = comes_out st m (b + t - stretch_start st m) named (omega (arith, on.0, on.1)) in
        let z : bytes_before st m + b - stretch_start st m + t ≡ bytes_before st m + (b + t - stretch_start st m) = omega (arith, i.0) in
        (omega (arith, z, o.0), ap (byte_at st) z ∙ o.1 ∙ omega (arith, i.0))

    comes_on : byte_at st (bytes_before st m + b - stretch_start st m + t) ≡ b + t
    comes_on = out.1

  -- a run judged and stored there
  pub stretch_walked : (D : ℕ → ℕ) (len room m : ℕ) (row before after : List ℕ) (fit : Bool) → length row ≡ run → ((t : ℕ) → t < length row → D (b + t) ≡ get_or row t 0)
      → m < stretch_count st → InStretch st b m
      → ((E : ℕ → ℕ) → ((t : ℕ) → t < length row → E (bytes_before st m + b - stretch_start st m + t) ≡ get_or row t 0)
      → Walked E len room (InRun (bytes_before st m + b - stretch_start st m) (length row)) before after fit)
      → Walked (λ e. D (byte_at st e)) len room (AtStretch st b run m) before after fit
  stretch_walked D len room m row before after fit long same named i w =
      walked_as (λ e. D (byte_at st e)) len room (InRun (bytes_before st m + b - stretch_start st m) (length row)) (AtStretch st b run m) before after fit
      (λ e d. (i, rw long at d)) (λ _ e d. rw long d.1)
      (w (λ e. D (byte_at st e)) (λ t h. ap D (comes_on m named i t (rw long at h)) ∙ same t h))

  stretches_run : (e : ℕ) → OneOf (stretch_count st) (AtStretch st b run) e → ComeOut st (InRun b run) e
  stretches_run e (m, named, (i, (low, high))) =
      let t = e - (bytes_before st m + b - stretch_start st m) in
      let o = out m named i t (omega arith) in
      let z : bytes_before st m + b - stretch_start st m + t ≡ e = omega arith in
      let y : byte_at st e ≡ b + t = ap (byte_at st) (sym z) ∙ o.1 in
      (omega (arith, z, o.0), (omega (arith, y), omega (arith, y)))

  run_stretches : (e : ℕ) → ComeOut st (InRun b run) e → OneOf (stretch_count st) (AtStretch st b run) e
  run_stretches e (h, (low, high)) =
      let o = out_of st e h in
      let t = byte_at st e - b in
      let y : byte_at st e ≡ stretch_start st o.m + o.x = ap (byte_at st) (sym o.at) ∙ (comes_out st o.m o.x o.named o.inside).1 in
      let i : InStretch st b o.m = stretch_back st b run w t (omega arith) o.m o.named (omega (arith, y), omega (arith, y, o.inside)) in
      (o.m, o.named, (i, (omega (arith, o.at, y, i.0), omega (arith, o.at, y, i.0))))

  pub run_walked : (D : ℕ → ℕ) (len room n : ℕ) (before after : List ℕ) (fit : Bool) → n ≡ stretch_count st
      → Walked D len room (OneOf n (AtStretch st b run)) before after fit → Walked D len room (ComeOut st (InRun b run)) before after fit
  run_walked D len room n before after fit e v =
      walked_as D len room (OneOf n (AtStretch st b run)) (ComeOut st (InRun b run)) before after fit (λ i d. stretches_run i (rw e at d)) (λ _ i d. rw e (run_stretches i d)) v

-- ---- the runs from a on, one after the other, and all of them

-- what leaves a, a + 1, ..
abbrev pub AtRuns : ℕ → ℕ → ℕ → ℕ → Type 0
AtRuns modulus a run y = InRun a run (y % modulus)

-- of these, the runs that begin before b
abbrev pub RunsBefore : ℕ → ℕ → ℕ → ℕ → ℕ → Type 0
RunsBefore modulus a run b y = AtRuns modulus a run y × (y + a < b + y % modulus)

-- what leaves less than a
abbrev pub Below : ℕ → ℕ → ℕ → Type 0
Below modulus a y = y % modulus < a

module _ (D : ℕ → ℕ) (len room : ℕ) (st : List ℕ) (modulus most : ℕ) (bounded : (y : ℕ) → Wanted st y → y < most) (before : List ℕ) where
  nothing : (Done : ℕ → Type 0) → ((e : ℕ) → ComeOut st Done e → ⊥) → Walked D len room (ComeOut st Done) before before true
  nothing Done none =
      walked_as D len room (OneOf 0 (λ _ e. ⊥)) (ComeOut st Done) before before true (λ e d. absurd (omega (arith, d.1))) (λ _ e d. absurd (none e d)) (walked_none D len room (λ _ e. ⊥) before)

  module _ (a run end : ℕ) (h : a + run ≤ end) (u : Uncut st modulus a end) where
    -- before the first wanted byte that leaves a there are none
    pub runs_none : (b : ℕ) → NextWanted st modulus a 0 most b → Walked D len room (ComeOut st (RunsBefore modulus a run b)) before before true
    runs_none b w = nothing (RunsBefore modulus a run b) (λ e (l, (d, early)).
        let (c, z, leaves, wanted) = begins st modulus a end u run h (byte_at st e) d (out_wanted st e l) in
        w.first c (omega arith) (omega (arith, z)) leaves wanted)

    module _ (b c : ℕ) (inside : b < most) (leaves : b % modulus ≡ a) (next : NextWanted st modulus a (b + 1) most c) where
      later : b < c
      later = next_later st modulus a b most c inside next

      both : (e : ℕ) → ComeOut st (RunsBefore modulus a run b) e ⊎ ComeOut st (InRun b run) e → ComeOut st (RunsBefore modulus a run c) e
      both e (inl (l, (d, early))) = (l, (d, omega (arith, later)))
      both e (inr (l, (low, high))) =
          let y = byte_at st e in
          let t = y - b in
          let z : b + t ≡ y = omega arith in
          let g : y % modulus ≡ a + t = ap (λ z. z % modulus) (sym z) ∙ leaves_on modulus b t (omega (arith, leaves, u.upto)) ∙ ap (λ z. z + t) leaves in
          (l, ((omega (arith, g), omega (arith, g)), omega (arith, g, later)))

      split : (e : ℕ) → ComeOut st (RunsBefore modulus a run c) e → ComeOut st (RunsBefore modulus a run b) e ⊎ ComeOut st (InRun b run) e
      split e (l, (d, early)) =
          let (x, z, at, wanted) = begins st modulus a end u run h (byte_at st e) d (out_wanted st e l) in
          go x z at wanted (below_or_not x b) (ℕ_discrete x b)
        where
          go : (x : ℕ) → x + byte_at st e % modulus ≡ byte_at st e + a → x % modulus ≡ a → Wanted st x → (x < b) ⊎ (b ≤ x) → Dec (x ≡ b)
              → ComeOut st (RunsBefore modulus a run b) e ⊎ ComeOut st (InRun b run) e
          go x z at wanted (inl k) q = inl (l, (d, omega (arith, z)))
          go x z at wanted (inr k) (yes q) = inr (l, (omega (arith, z, q, d.0), omega (arith, z, q, d.1)))
          go x z at wanted (inr k) (no q) = absurd (next.first x (omega (arith, q)) (omega (arith, z)) at wanted)

      -- one run more
      pub runs_more : (now after : List ℕ) (fit : Bool) → fit ≡ true → Walked D len room (ComeOut st (RunsBefore modulus a run b)) before now true
          → Walked D len room (ComeOut st (InRun b run)) now after fit → Walked D len room (ComeOut st (RunsBefore modulus a run c)) before after true
      runs_more now after fit e w v =
          walked_then D len room (ComeOut st (RunsBefore modulus a run b)) (ComeOut st (InRun b run)) (ComeOut st (RunsBefore modulus a run c)) before now after true true refl both split w
          (subst (Walked D len room (ComeOut st (InRun b run)) now after) e v)

    -- where one does not fit
    pub runs_end : (b : ℕ) (now after : List ℕ) (fit : Bool) → b % modulus ≡ a → fit ≡ false → Walked D len room (ComeOut st (RunsBefore modulus a run b)) before now true
        → Walked D len room (ComeOut st (InRun b run)) now after fit → Walked D len room (ComeOut st (AtRuns modulus a run)) before after false
    runs_end b now after fit leaves e w v =
        walked_stop D len room (ComeOut st (RunsBefore modulus a run b)) (ComeOut st (InRun b run)) (ComeOut st (AtRuns modulus a run)) before now after fit e inside w v
      where
        inside : (i : ℕ) → ComeOut st (RunsBefore modulus a run b) i ⊎ ComeOut st (InRun b run) i → ComeOut st (AtRuns modulus a run) i
        inside i (inl (l, (d, _))) = (l, d)
        inside i (inr (l, (low, high))) =
            let t = byte_at st i - b in
            let z : b + t ≡ byte_at st i = omega arith in
            let g : byte_at st i % modulus ≡ a + t = ap (λ z. z % modulus) (sym z) ∙ leaves_on modulus b t (omega (arith, leaves, u.upto)) ∙ ap (λ z. z + t) leaves in
            (l, (omega (arith, g), omega (arith, g)))

    -- all of them
    pub runs_all : (b : ℕ) (after : List ℕ) → most ≤ b → Walked D len room (ComeOut st (RunsBefore modulus a run b)) before after true
        → Walked D len room (ComeOut st (AtRuns modulus a run)) before after true
    runs_all b after h w =
        walked_as D len room (ComeOut st (RunsBefore modulus a run b)) (ComeOut st (AtRuns modulus a run)) before after true (λ e (l, (d, _)). (l, d))
        (λ _ e (l, d). (l, (d, omega (arith, bounded (byte_at st e) (out_wanted st e l), d.0)))) w

  -- ---- all runs of all a

  pub below_none : Walked D len room (ComeOut st (Below modulus 0)) before before true
  below_none = nothing (Below modulus 0) (λ e (l, d). omega (arith, d))

  -- the next a are touched by nothing
  pub below_skip : (a end : ℕ) (now : List ℕ) → Uncut st modulus a end → NextWanted st modulus a 0 most most
      → Walked D len room (ComeOut st (Below modulus a)) before now true → Walked D len room (ComeOut st (Below modulus end)) before now true
  below_skip a end now u none w =
      walked_as D len room (ComeOut st (Below modulus a)) (ComeOut st (Below modulus end)) before now true (λ e (l, d). (l, omega (arith, u.on)))
      (λ _ e (l, d). (l, go e l d (below_or_not (byte_at st e % modulus) a))) w
    where
      z : a + (end - a) ≡ end
      z = omega (arith, u.on)

      go : (e : ℕ) → e < bytes_wanted st → byte_at st e % modulus < end → (byte_at st e % modulus < a) ⊎ (a ≤ byte_at st e % modulus) → byte_at st e % modulus < a
      go e l d (inl k) = k
      go e l d (inr k) =
          let (b, y, leaves, wanted) = begins st modulus a end u (end - a) (omega (arith, z)) (byte_at st e) (k, omega (arith, z)) (out_wanted st e l) in
          absurd (none.first b (omega arith) (bounded b wanted) leaves wanted)

  -- a run more
  pub below_more : (a run : ℕ) (now after : List ℕ) (fit : Bool) → fit ≡ true → Walked D len room (ComeOut st (Below modulus a)) before now true
      → Walked D len room (ComeOut st (AtRuns modulus a run)) now after fit → Walked D len room (ComeOut st (Below modulus (a + run))) before after true
  below_more a run now after fit z w v =
      walked_then D len room (ComeOut st (Below modulus a)) (ComeOut st (AtRuns modulus a run)) (ComeOut st (Below modulus (a + run))) before now after true true refl to from w
      (subst (Walked D len room (ComeOut st (AtRuns modulus a run)) now after) z v)
    where
      to : (e : ℕ) → ComeOut st (Below modulus a) e ⊎ ComeOut st (AtRuns modulus a run) e → ComeOut st (Below modulus (a + run)) e
      to e (inl (l, d)) = (l, omega arith)
      to e (inr (l, d)) = (l, d.1)

      from : (e : ℕ) → ComeOut st (Below modulus (a + run)) e → ComeOut st (Below modulus a) e ⊎ ComeOut st (AtRuns modulus a run) e
      from e (l, d) = go (below_or_not (byte_at st e % modulus) a)
        where
          go : (byte_at st e % modulus < a) ⊎ (a ≤ byte_at st e % modulus) → ComeOut st (Below modulus a) e ⊎ ComeOut st (AtRuns modulus a run) e
          go (inl k) = inl (l, k)
          go (inr k) = inr (l, (k, d))

  pub below_end : (a run : ℕ) (now after : List ℕ) (fit : Bool) → fit ≡ false → Walked D len room (ComeOut st (Below modulus a)) before now true
      → Walked D len room (ComeOut st (AtRuns modulus a run)) now after fit → Walked D len room (AllOut st) before after false
  below_end a run now after fit z w v =
      walked_stop D len room (ComeOut st (Below modulus a)) (ComeOut st (AtRuns modulus a run)) (AllOut st) before now after fit z all w v
    where
      all : (e : ℕ) → ComeOut st (Below modulus a) e ⊎ ComeOut st (AtRuns modulus a run) e → AllOut st e
      all e (inl (l, d)) = l
      all e (inr (l, d)) = l

  pub below_all : (a : ℕ) (after : List ℕ) → 0 < modulus → modulus ≤ a → Walked D len room (ComeOut st (Below modulus a)) before after true
      → Walked D len room (AllOut st) before after true
  below_all a after o h w =
      walked_as D len room (ComeOut st (Below modulus a)) (AllOut st) before after true (λ e (l, d). l)
      (λ _ e l. (l, omega (arith, mod-lt (byte_at st e) o))) w
