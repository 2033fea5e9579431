-- The wanted bytes one by one: where each comes out, and which column it touches.
use mathlib.Core.Path.{◌≡◌, refl, sym, ap, ap₂, ◌∙◌}
use mathlib.Core.Logic.{◌⊎◌, inl, inr}
use mathlib.Core.Bool.{true}
use mathlib.Core.List.{List, map}
use Prim.Native.Nat.{ℕ, zero, suc, ◌+◌, ◌-◌, ◌%◌, ◌≤◌, ◌<◌}
use native.Mathlib.Decide.{ℕ_discrete}
use native.Mathlib.Omega.{arith}
use lib.ListN.{length, get_or, length-append, length-map, get_or-append}
use lib.Seq.{get_or-append-add}
use Rattle.lists.specs.Lists.{range, flat, position}
use Rattle.lists.specs.Sums.{sum}
use Rattle.lists.proofs.Tables.{range_length, range_at, map_at}
use Rattle.lists.proofs.Members.{member_of, at_position}
use Rattle.lists.proofs.Tests.{below_or_not}
use Rattle.shape.specs.declared.Shape.{Shape}
use Rattle.shape.specs.Shape.{size}
use Rattle.stretches.specs.Stretches.{stretch_count, stretch_start, stretch_length, bytes_before, bytes_wanted, wanted, joined, touched}
use Rattle.stretches.specs.Steps.{Wanted, byte_at}

-- byte x of stretch m comes out at e
pub record Out (st : List ℕ) (n e : ℕ) : Type 0 where
  pub m : ℕ
  pub x : ℕ
  pub named : m < n
  pub inside : x < stretch_length st m
  pub at : bytes_before st m + x ≡ e

module _ (st : List ℕ) where
  -- ---- the first n stretches

  abbrev part : ℕ → List ℕ
  part m = range (stretch_start st m) (stretch_length st m)

  front_length : (n : ℕ) → length (flat n part) ≡ bytes_before st n
  unfolding flat bytes_before sum
  front_length zero = refl
  front_length (suc n) = length-append (flat n part) (part n) ∙ ap₂ ◌+◌ (front_length n) (range_length _ _)

  pub before_none : bytes_before st 0 ≡ 0
  unfolding bytes_before sum
  before_none = refl

  before_suc : (n : ℕ) → bytes_before st (suc n) ≡ bytes_before st n + stretch_length st n
  unfolding bytes_before sum
  before_suc n = refl

  pub before_more : (n : ℕ) → bytes_before st (n + 1) ≡ bytes_before st n + stretch_length st n
  before_more n = ap (bytes_before st) (let z : n + 1 ≡ suc n = omega arith in z) ∙ before_suc n

  pub before_grows : (m n : ℕ) → m < n → bytes_before st m + stretch_length st m ≤ bytes_before st n
  before_grows m zero h = absurd (omega arith)
  before_grows m (suc n) h = go (ℕ_discrete m n) (before_grows m n)
    where
      go : Dec (m ≡ n) → (m < n → bytes_before st m + stretch_length st m ≤ bytes_before st n) → bytes_before st m + stretch_length st m ≤ bytes_before st (suc n)
      go (yes e) f = rw e (omega (arith, before_suc n))
      go (no e) f = omega (arith, before_suc n, f (omega (arith, e)))

  front_at : (n m x : ℕ) → m < n → x < stretch_length st m → get_or (flat n part) (bytes_before st m + x) 0 ≡ stretch_start st m + x
  unfolding flat
  front_at zero m x h l = absurd (omega arith)
  front_at (suc n) m x h l = go (ℕ_discrete m n) (front_at n m x)
    where
      last : x < stretch_length st n → get_or (flat (suc n) part) (bytes_before st n + x) 0 ≡ stretch_start st n + x
      last k =
          rw (← front_length n)
          (get_or-append-add (flat n part) (part n) x 0 ∙ range_at (stretch_start st n) (stretch_length st n) x k)

      go : Dec (m ≡ n) → (m < n → x < stretch_length st m → get_or (flat n part) (bytes_before st m + x) 0 ≡ stretch_start st m + x)
          → get_or (flat (suc n) part) (bytes_before st m + x) 0 ≡ stretch_start st m + x
      go (yes e) f = rw e (last (rw e at l))
      go (no e) f =
          let k : m < n = omega (arith, e) in
          get_or-append (flat n part) (part n) 0 (bytes_before st m + x) (omega (arith, front_length n, before_grows m n k)) ∙ f k l

  front_out : (n e : ℕ) → e < bytes_before st n → Out st n e
  front_out zero e h = absurd (omega (arith, h, before_none))
  front_out (suc n) e h = go (below_or_not e (bytes_before st n)) (front_out n e)
    where
      go : (e < bytes_before st n) ⊎ (bytes_before st n ≤ e) → (e < bytes_before st n → Out st n e) → Out st (suc n) e
      go (inl k) f = let o = f k in record { m = o.m; x = o.x; named = omega (arith, o.named); inside = o.inside; at = o.at }
      go (inr k) f = record { m = n; x = e - bytes_before st n; named = omega arith; inside = omega (arith, before_suc n); at = omega arith }

  -- ---- all of them

  wanted_length : length (wanted st) ≡ bytes_wanted st
  unfolding wanted bytes_wanted
  wanted_length = front_length (stretch_count st)

  pub wanted_whole : bytes_wanted st ≡ bytes_before st (stretch_count st)
  unfolding bytes_wanted
  wanted_whole = refl

  pub comes_out : (m x : ℕ) → m < stretch_count st → x < stretch_length st m
      → (bytes_before st m + x < bytes_wanted st) × (byte_at st (bytes_before st m + x) ≡ stretch_start st m + x)
  unfolding wanted bytes_wanted byte_at
  comes_out m x h l = (omega (arith, before_grows m (stretch_count st) h), front_at (stretch_count st) m x h l)

  pub out_of : (e : ℕ) → e < bytes_wanted st → Out st (stretch_count st) e
  unfolding bytes_wanted
  out_of e h = front_out (stretch_count st) e h

  wanted_out : (b : ℕ) → Wanted st b → (e : ℕ) × (e < bytes_wanted st) × (byte_at st e ≡ b)
  wanted_out b (m, h, (low, high)) =
      let o = comes_out m (b - stretch_start st m) h (omega arith) in
      (bytes_before st m + (b - stretch_start st m), o.0, o.1 ∙ omega arith)

  pub out_wanted : (e : ℕ) → e < bytes_wanted st → Wanted st (byte_at st e)
  out_wanted e h =
      let o = out_of e h in
      let z : byte_at st e ≡ stretch_start st o.m + o.x = ap (byte_at st) (sym o.at) ∙ (comes_out o.m o.x o.named o.inside).1 in
      (o.m, o.named, (omega (arith, z), omega (arith, z, o.inside)))

  -- ---- what the bytes are, and the columns

  pub joined_length : (bytes : List ℕ) → length (joined st bytes) ≡ bytes_wanted st
  unfolding joined
  joined_length bytes = length-map (wanted st) (λ b. get_or bytes b 0) ∙ wanted_length

  pub joined_at : (bytes : List ℕ) (e : ℕ) → e < bytes_wanted st → get_or (joined st bytes) e 0 ≡ get_or bytes (byte_at st e) 0
  unfolding joined byte_at
  joined_at bytes e h = map_at (λ b. get_or bytes b 0) (wanted st) e 0 0 (omega (arith, wanted_length))

  module _ (s : Shape) where
    abbrev places : List ℕ
    places = map (λ b. b % size s) (wanted st)

    places_length : length places ≡ bytes_wanted st
    places_length = length-map (wanted st) (λ b. b % size s) ∙ wanted_length

    places_at : (e : ℕ) → e < bytes_wanted st → get_or places e 0 ≡ byte_at st e % size s
    unfolding byte_at
    places_at e h = map_at (λ b. b % size s) (wanted st) e 0 0 (omega (arith, wanted_length))

    pub wanted_touches : (b : ℕ) → Wanted st b → touched s st (b % size s) ≡ true
    unfolding touched
    wanted_touches b w =
        let (e, h, z) = wanted_out b w in
        rw (← z, ← places_at e h) (member_of places e (rw places_length h))

    pub touched_wanted : (column : ℕ) → touched s st column ≡ true → (b : ℕ) × (Wanted st b) × (b % size s ≡ column)
    unfolding touched
    touched_wanted column t =
        let p = at_position places column t in
        let h : position column places < bytes_wanted st = omega (arith, p.0, places_length) in
        (byte_at st (position column places), out_wanted (position column places) h, sym (places_at (position column places) h) ∙ p.1)
