-- Runs: between two numbers that starts and ends of stretches leave, a stretch has all bytes or none.
use mathlib.Core.Path.{◌≡◌, ap, ◌∙◌}
use mathlib.Core.Logic.{◌⊎◌, inl, inr, ◌≢◌}
use mathlib.Core.Bool.{true}
use mathlib.Core.List.{List}
use Prim.Native.Nat.{ℕ, ◌+◌, ◌-◌, ◌*◌, ◌/◌, ◌%◌, ◌≤◌, ◌<◌}
use native.Mathlib.Nat.{mod-lt, mod-eq_of_lt, div-add-mod', mul-le-mul_right}
use native.Mathlib.Decide.{ℕ_discrete}
use native.Mathlib.Omega.{arith}
use borrow.Author.Tests.{ltb-true, leb-true}
use lib.Arith.{digits_mod}
use lib.Dec.{ltb, leb}
use Rattle.lists.proofs.Tests.{below_or_not}
use Rattle.filling.specs.Filling.{InRun}
use Rattle.stretches.specs.Stretches.{stretch_count, stretch_start, stretch_length}
use Rattle.stretches.specs.Steps.{InStretch, Wanted, Nearer, Uncut, Leaving, NextWanted, Whole}

-- ---- what numbers leave

module _ (modulus : ℕ) where
  -- a little further on, so much more
  pub leaves_on : (b t : ℕ) → b % modulus + t < modulus → (b + t) % modulus ≡ b % modulus + t
  leaves_on b t h =
      ap (λ z. z % modulus) (let z : b + t ≡ b / modulus * modulus + (b % modulus + t) = omega (arith, div-add-mod' b modulus) in z)
      ∙ digits_mod (b / modulus) h

  module _ (rest x : ℕ) (h : rest < modulus) where
    -- a number that leaves `rest`, less than the modulus behind x
    leaving_at : (y c : ℕ) → y ≡ c * modulus + rest → x ≤ y → y < x + modulus → Leaving modulus rest x y
    leaving_at y c e low high = record {
      from = low;
      near = high;
      leaves = ap (λ z. z % modulus) e ∙ digits_mod c h;
      first = λ z from before leaves. go z from before leaves (below_or_not (z / modulus) c);
    }
      where
        go : (z : ℕ) → x ≤ z → z < y → z % modulus ≡ rest → (z / modulus < c) ⊎ (c ≤ z / modulus) → ⊥
        go z from before leaves (inl l) =
            omega (arith, div-add-mod' z modulus, leaves, mul-le-mul_right modulus (let k : z / modulus + 1 ≤ c = omega arith in k))
        go z from before leaves (inr l) = omega (arith, div-add-mod' z modulus, leaves, mul-le-mul_right modulus l)

    pub leaving_is : Leaving modulus rest x (x + (rest + modulus - x % modulus) % modulus)
    leaving_is = go (below_or_not rest (x % modulus))
      where
        small : x % modulus < modulus
        small = mod-lt x (omega arith)

        go : (rest < x % modulus) ⊎ (x % modulus ≤ rest) → Leaving modulus rest x (x + (rest + modulus - x % modulus) % modulus)
        go (inl l) =
            let e : (rest + modulus - x % modulus) % modulus ≡ rest + modulus - x % modulus = mod-eq_of_lt (omega (arith, small)) in
            leaving_at _ (x / modulus + 1) (omega (arith, e, small, div-add-mod' x modulus)) (omega arith) (omega (arith, e, small))
        go (inr l) =
            let e : (rest + modulus - x % modulus) % modulus ≡ rest - x % modulus =
            ap (λ z. z % modulus) (let z : rest + modulus - x % modulus ≡ 1 * modulus + (rest - x % modulus) = omega arith in z) ∙ digits_mod 1 (omega arith) in
            leaving_at _ (x / modulus) (omega (arith, e, small, div-add-mod' x modulus)) (omega arith) (omega (arith, e, small))

-- ---- the next start or end

-- as far as the first n stretches go
pub record UncutUpto (st : List ℕ) (modulus at end n : ℕ) : Type 0 where
  pub on : at < end
  pub upto : end ≤ modulus
  pub starts : (m x : ℕ) → m < n → at < x → x < end → stretch_start st m % modulus ≢ x
  pub stops : (m x : ℕ) → m < n → at < x → x < end → (stretch_start st m + stretch_length st m) % modulus ≢ x

module _ (st : List ℕ) (modulus at : ℕ) where
  pub uncut_none : at < modulus → UncutUpto st modulus at modulus 0
  uncut_none h = record { on = h; upto = omega arith; starts = λ m x l. absurd (omega arith); stops = λ m x l. absurd (omega arith) }

  pub uncut_more : (end n y z : ℕ) → UncutUpto st modulus at end n → Nearer at ((stretch_start st n + stretch_length st n) % modulus) end y
      → Nearer at (stretch_start st n % modulus) y z → UncutUpto st modulus at z (n + 1)
  uncut_more end n y z w v u = record {
    on = u.on (v.on w.on);
    upto = omega (arith, u.upto, v.upto, w.upto);
    starts = λ m x l low high e. start m x low high e (ℕ_discrete m n) l;
    stops = λ m x l low high e. stop m x low high e (ℕ_discrete m n) l;
  }
    where
      start : (m x : ℕ) → at < x → x < z → stretch_start st m % modulus ≡ x → Dec (m ≡ n) → m < n + 1 → ⊥
      start m x low high e (yes d) l = let f : stretch_start st n % modulus ≡ x = rw d at e in omega (arith, f, u.short (rw f low))
      start m x low high e (no d) l = w.starts m x (omega (arith, d)) low (omega (arith, u.upto, v.upto)) e

      stop : (m x : ℕ) → at < x → x < z → (stretch_start st m + stretch_length st m) % modulus ≡ x → Dec (m ≡ n) → m < n + 1 → ⊥
      stop m x low high e (yes d) l =
          let f : (stretch_start st n + stretch_length st n) % modulus ≡ x = rw d at e in omega (arith, f, v.short (rw f low), u.upto)
      stop m x low high e (no d) l = w.stops m x (omega (arith, d)) low (omega (arith, u.upto, v.upto)) e

  pub uncut_all : (end n : ℕ) → n ≡ stretch_count st → UncutUpto st modulus at end n → Uncut st modulus at end
  uncut_all end n e w = record { on = w.on; upto = w.upto; starts = λ m x l. w.starts m x (omega (arith, e)); stops = λ m x l. w.stops m x (omega (arith, e)) }

  -- so a stretch has all of the bytes there or none
  module _ (end : ℕ) (w : Uncut st modulus at end) (b run : ℕ) (e : b % modulus ≡ at) (h : at + run ≤ end) where
    further : (t : ℕ) → t < run → (b + t) % modulus ≡ at + t
    further t l = leaves_on modulus b t (omega (arith, e, w.upto)) ∙ ap (λ z. z + t) e

    pub uncut_whole : Whole st b run
    uncut_whole = record {
      all_of = λ m l (low, high). ends m l high (below_or_not (stretch_start st m + stretch_length st m) (b + run));
      none_of = λ m l low. begins m l low (below_or_not (stretch_start st m) (b + run));
    }
      where
        ends : (m : ℕ) → m < stretch_count st → b < stretch_start st m + stretch_length st m
            → (stretch_start st m + stretch_length st m < b + run) ⊎ (b + run ≤ stretch_start st m + stretch_length st m) → b + run ≤ stretch_start st m + stretch_length st m
        ends m l low (inr k) = k
        ends m l low (inl k) =
            let t = stretch_start st m + stretch_length st m - b in
            let z : stretch_start st m + stretch_length st m ≡ b + t = omega arith in
            absurd (w.stops m (at + t) l (omega arith) (omega arith) (ap (λ y. y % modulus) z ∙ further t (omega arith)))

        begins : (m : ℕ) → m < stretch_count st → b < stretch_start st m → (stretch_start st m < b + run) ⊎ (b + run ≤ stretch_start st m) → b + run ≤ stretch_start st m
        begins m l low (inr k) = k
        begins m l low (inl k) =
            let t = stretch_start st m - b in
            let z : stretch_start st m ≡ b + t = omega arith in
            absurd (w.starts m (at + t) l (omega arith) (omega arith) (ap (λ y. y % modulus) z ∙ further t (omega arith)))

-- a byte before a stretch, or behind it
pub not_in : (st : List ℕ) (b m : ℕ) → (ltb b (stretch_start st m) ≡ true) ⊎ (leb (stretch_start st m + stretch_length st m) b ≡ true) → InStretch st b m → ⊥
not_in st b m (inl e) (low, high) = omega (arith, ltb-true b (stretch_start st m) e)
not_in st b m (inr e) (low, high) = omega (arith, leb-true (stretch_start st m + stretch_length st m) b e)

-- all of a run is wanted, or none
module _ (st : List ℕ) (b run : ℕ) (w : Whole st b run) (t : ℕ) (h : t < run) where
  pub stretch_on : (m : ℕ) → m < stretch_count st → InStretch st b m → InStretch st (b + t) m
  stretch_on m l (low, high) = (omega arith, omega (arith, w.all_of m l (low, high)))

  pub stretch_back : (m : ℕ) → m < stretch_count st → InStretch st (b + t) m → InStretch st b m
  stretch_back m l (low, high) = go (below_or_not b (stretch_start st m))
    where
      go : (b < stretch_start st m) ⊎ (stretch_start st m ≤ b) → InStretch st b m
      go (inl k) = absurd (omega (arith, w.none_of m l k))
      go (inr k) = (k, omega arith)

  pub wanted_on : Wanted st b → Wanted st (b + t)
  wanted_on (m, l, i) = (m, l, stretch_on m l i)

  wanted_back : Wanted st (b + t) → Wanted st b
  wanted_back (m, l, i) = (m, l, stretch_back m l i)

-- a shorter run
pub uncut_less : (st : List ℕ) (modulus at end run : ℕ) → Uncut st modulus at end → 0 < run → at + run ≤ end → Uncut st modulus at (at + run)
uncut_less st modulus at end run w o h = record {
  on = omega arith;
  upto = omega (arith, w.upto);
  starts = λ m x l low high. w.starts m x l low (omega arith);
  stops = λ m x l low high. w.stops m x l low (omega arith);
}

-- where a wanted byte's run begins: at a wanted byte
module _ (st : List ℕ) (modulus a end : ℕ) (u : Uncut st modulus a end) (run : ℕ) (h : a + run ≤ end) where
  pub begins : (y : ℕ) → InRun a run (y % modulus) → Wanted st y → (b : ℕ) × (b + y % modulus ≡ y + a) × (b % modulus ≡ a) × Wanted st b
  begins y (low, high) w =
      let b = y / modulus * modulus + a in
      let t = y % modulus - a in
      let z : b + t ≡ y = omega (arith, div-add-mod' y modulus) in
      let e : b % modulus ≡ a = digits_mod (y / modulus) (omega (arith, u.on, u.upto)) in
      (b, omega (arith, div-add-mod' y modulus), e, wanted_back st b run (uncut_whole st modulus a end u b run e h) t (omega arith) (rw z w))

-- ---- the next wanted byte

-- as far as the first n stretches go
pub record NextUpto (st : List ℕ) (modulus rest x most b n : ℕ) : Type 0 where
  pub upto : b ≤ most
  pub from : b < most → x ≤ b
  pub leaves : b < most → b % modulus ≡ rest
  pub there : b < most → Wanted st b
  pub first : (z : ℕ) → x ≤ z → z < b → z % modulus ≡ rest → (m : ℕ) → m < n → InStretch st z m → ⊥

module _ (st : List ℕ) (modulus rest x most : ℕ) where
  pub next_none : NextUpto st modulus rest x most most 0
  next_none = record {
    upto = omega arith;
    from = λ h. absurd (omega arith);
    leaves = λ h. absurd (omega arith);
    there = λ h. absurd (omega arith);
    first = λ z _ _ _ m h. absurd (omega arith);
  }

  -- y is the first that leaves `rest` from the start of stretch n on, and from x on
  module _ (b n first y : ℕ) (w : NextUpto st modulus rest x most b n) (v : Leaving modulus rest first y)
      (low : (z : ℕ) → x ≤ z → stretch_start st n ≤ z → first ≤ z) where
    -- none of stretch n's comes before y
    behind : (z : ℕ) → x ≤ z → z < y → z % modulus ≡ rest → InStretch st z n → ⊥
    behind z h l e (s, _) = v.first z (low z h s) l e

    next_kept : (stretch_start st n + stretch_length st n ≤ y) ⊎ (b ≤ y) → NextUpto st modulus rest x most b (n + 1)
    next_kept k = record {
      upto = w.upto;
      from = w.from;
      leaves = w.leaves;
      there = w.there;
      first = λ z h l e m g i. go z h l e m i (ℕ_discrete m n) g k;
    }
      where
        go : (z : ℕ) → x ≤ z → z < b → z % modulus ≡ rest → (m : ℕ) → InStretch st z m → Dec (m ≡ n) → m < n + 1
            → (stretch_start st n + stretch_length st n ≤ y) ⊎ (b ≤ y) → ⊥
        go z h l e m i (no d) g k = w.first z h l e m (omega (arith, d)) i
        go z h l e m i (yes d) g (inl k) = let j : InStretch st z n = rw d at i in behind z h (omega (arith, j.1)) e j
        go z h l e m i (yes d) g (inr k) = behind z h (omega arith) e (rw d at i)

    next_found : n < stretch_count st → x ≤ first → stretch_start st n ≤ first → y < stretch_start st n + stretch_length st n → y < b
        → NextUpto st modulus rest x most y (n + 1)
    next_found named from start inside less = record {
      upto = omega (arith, w.upto);
      from = λ _. omega (arith, v.from);
      leaves = λ _. v.leaves;
      there = λ _. (n, named, (omega (arith, v.from), inside));
      first = λ z h l e m g i. go z h l e m i (ℕ_discrete m n) g;
    }
      where
        go : (z : ℕ) → x ≤ z → z < y → z % modulus ≡ rest → (m : ℕ) → InStretch st z m → Dec (m ≡ n) → m < n + 1 → ⊥
        go z h l e m i (no d) g = w.first z h (omega arith) e m (omega (arith, d)) i
        go z h l e m i (yes d) g = behind z h l e (rw d at i)

  -- stretch n lies before x, or no byte of it before b
  pub next_skip : (b n : ℕ) → NextUpto st modulus rest x most b n → (leb (stretch_start st n + stretch_length st n) x ≡ true) ⊎ (leb b (stretch_start st n) ≡ true)
      → NextUpto st modulus rest x most b (n + 1)
  next_skip b n w k = record {
    upto = w.upto;
    from = w.from;
    leaves = w.leaves;
    there = w.there;
    first = λ z h l e m g i. go z h l e m i (ℕ_discrete m n) g k;
  }
    where
      go : (z : ℕ) → x ≤ z → z < b → z % modulus ≡ rest → (m : ℕ) → InStretch st z m → Dec (m ≡ n) → m < n + 1
          → (leb (stretch_start st n + stretch_length st n) x ≡ true) ⊎ (leb b (stretch_start st n) ≡ true) → ⊥
      go z h l e m i (no d) g k = w.first z h l e m (omega (arith, d)) i
      go z h l e m i (yes d) g (inl k) = let j : InStretch st z n = rw d at i in omega (arith, j.1, leb-true (stretch_start st n + stretch_length st n) x k)
      go z h l e m i (yes d) g (inr k) = let j : InStretch st z n = rw d at i in omega (arith, j.0, leb-true b (stretch_start st n) k)

  pub next_more : (b n first y z : ℕ) → NextUpto st modulus rest x most b n → Leaving modulus rest first y → x ≤ first → stretch_start st n ≤ first
      → ((z : ℕ) → stretch_start st n ≤ z → x ≤ z → first ≤ z) → n < stretch_count st
      → ((z ≡ y) × (y < stretch_start st n + stretch_length st n) × (y < b)) ⊎ ((z ≡ b) × ((stretch_start st n + stretch_length st n ≤ y) ⊎ (b ≤ y)))
      → NextUpto st modulus rest x most z (n + 1)
  next_more b n first y z w v from start low named (inl (e, inside, less)) =
      rw e (next_found b n first y w v (λ z h l. low z l h) named from start inside less)
  next_more b n first y z w v from start low named (inr (e, k)) = rw e (next_kept b n first y w v (λ z h l. low z l h) k)

  pub next_all : (b n : ℕ) → n ≡ stretch_count st → NextUpto st modulus rest x most b n → NextWanted st modulus rest x most b
  next_all b n e w = record {
    upto = w.upto;
    from = w.from;
    leaves = w.leaves;
    there = w.there;
    first = λ z h l d (m, g, i). w.first z h l d m (omega (arith, e)) i;
  }

-- the next one lies further on
pub next_later : (st : List ℕ) (modulus rest b most c : ℕ) → b < most → NextWanted st modulus rest (b + 1) most c → b < c
next_later st modulus rest b most c h w = go (below_or_not c most)
  where
    go : (c < most) ⊎ (most ≤ c) → b < c
    go (inl l) = omega (arith, w.from l)
    go (inr l) = omega arith
