-- What is promised of the functions inside stretches.
use Rattle.std.specs.Prelude.{◌≡◌, ◌≢◌, Bool, true, false, not, List, ℕ, ◌+◌, ◌*◌, ◌%◌, ◌≤◌, ◌<◌, length, get_or}
use Rattle.lists.specs.Lists.{rising}
use Rattle.shape.specs.declared.Shape.{Shape}
use Rattle.shape.specs.Shape.{size}
use Rattle.shape.specs.Refusals.{shape_bad}
use Rattle.code.specs.Code.{narrow}
use Rattle.code.specs.Archive.{symbol, data_of}
use Rattle.stretches.specs.Stretches.{most_stretches, stretch_count, stretch_start, stretch_length, bytes_wanted, wanted, joined, touched}
use Rattle.stretches.specs.Refusals.{wanted_bad}

-- at most 64 stretches, that end within `most` bytes
pub record Bounded (stretches : List ℕ) (most : ℕ) : Type 0 where
  pub few : length stretches ≤ 2 * most_stretches
  pub ends : (m : ℕ) → m < stretch_count stretches → stretch_start stretches m + stretch_length stretches m ≤ most

-- byte b is in stretch m; in one of them
abbrev pub InStretch : List ℕ → ℕ → ℕ → Type 0
InStretch stretches b m = (stretch_start stretches m ≤ b) × (b < stretch_start stretches m + stretch_length stretches m)

abbrev pub Wanted : List ℕ → ℕ → Type 0
Wanted stretches b = (m : ℕ) × (m < stretch_count stretches) × InStretch stretches b m

-- from `at` up to the end no start or end of a stretch leaves a number, but for `at`
pub record Uncut (stretches : List ℕ) (modulus at end : ℕ) : Type 0 where
  pub on : at < end
  pub upto : end ≤ modulus
  pub starts : (m x : ℕ) → m < stretch_count stretches → at < x → x < end → stretch_start stretches m % modulus ≢ x
  pub stops : (m x : ℕ) → m < stretch_count stretches → at < x → x < end → (stretch_start stretches m + stretch_length stretches m) % modulus ≢ x

-- no further than the end, and no further than x where that lies behind `at`
pub record Nearer (at x end y : ℕ) : Type 0 where
  pub on : at < end → at < y
  pub upto : y ≤ end
  pub short : at < x → y ≤ x

-- y is the first number from x on that leaves `rest`
pub record Leaving (modulus rest x y : ℕ) : Type 0 where
  pub from : x ≤ y
  pub near : y < x + modulus
  pub leaves : y % modulus ≡ rest
  pub first : (z : ℕ) → x ≤ z → z < y → z % modulus ≢ rest

-- b is the first wanted byte from x on that leaves `rest`, or `most`
pub record NextWanted (stretches : List ℕ) (modulus rest x most b : ℕ) : Type 0 where
  pub upto : b ≤ most
  pub from : b < most → x ≤ b
  pub leaves : b < most → b % modulus ≡ rest
  pub there : b < most → Wanted stretches b
  pub first : (z : ℕ) → x ≤ z → z < b → z % modulus ≡ rest → Wanted stretches z → ⊥

-- whether a symbol of one of k nodes is above the largest from place `at` up to the end
pub record RunBad (k each at end : ℕ) (symbols : List ℕ) (bad : Bool) : Type 0 where
  pub low : bad ≡ false → (j p : ℕ) → j < k → at ≤ p → p < end → get_or symbols (j * each + p) 0 < narrow.modulus
  pub high : bad ≡ true → ((j p : ℕ) → j < k → at ≤ p → p < end → get_or symbols (j * each + p) 0 < narrow.modulus) → ⊥

-- whether one of the touched columns from `at` up to the end has such a symbol
pub record TouchedRunBad (s : Shape) (stretches : List ℕ) (at end : ℕ) (symbols : List ℕ) (bad : Bool) : Type 0 where
  pub low : bad ≡ false → (j p : ℕ) → j < s.k → at ≤ p → p < end → touched s stretches p ≡ true → symbol s symbols j p < narrow.modulus
  pub high : bad ≡ true → ((j p : ℕ) → j < s.k → at ≤ p → p < end → touched s stretches p ≡ true → symbol s symbols j p < narrow.modulus) → ⊥

-- a stretch has all of `run` bytes from b on, or none
pub record Whole (stretches : List ℕ) (b run : ℕ) : Type 0 where
  pub all_of : (m : ℕ) → m < stretch_count stretches → InStretch stretches b m → b + run ≤ stretch_start stretches m + stretch_length stretches m
  pub none_of : (m : ℕ) → m < stretch_count stretches → b < stretch_start stretches m → b + run ≤ stretch_start stretches m

-- the wanted byte that comes out at e
unfoldable pub byte_at : List ℕ → ℕ → ℕ
byte_at stretches e = get_or (wanted stretches) e 0

-- where the wanted bytes b with F b come out
abbrev pub ComeOut : List ℕ → (ℕ → Type 0) → ℕ → Type 0
ComeOut stretches F e = (e < bytes_wanted stretches) × F (byte_at stretches e)

-- where any wanted byte comes out
abbrev pub AllOut : List ℕ → ℕ → Type 0
AllOut stretches e = e < bytes_wanted stretches

-- k nodes in a rising list, with their k × N symbols, of which those in touched columns are below the modulus
pub record Legible (s : Shape) (list symbols stretches : List ℕ) : Type 0 where
  pub shape : shape_bad s ≡ false
  pub up : rising 0 s.n list ≡ true
  pub count : length list ≡ s.k
  pub long : length symbols ≡ s.k * size s
  pub bounded : Bounded stretches (s.k * size s)
  pub small : (j column : ℕ) → j < s.k → column < size s → touched s stretches column ≡ true → symbol s symbols j column < narrow.modulus

-- cause 7, and the bytes where it does not hold
pub record OpenedWanted (s : Shape) (list symbols stretches before after : List ℕ) (fit : Bool) : Type 0 where
  pub long : length after ≡ length before
  pub judged : fit ≡ not (wanted_bad narrow s list symbols stretches)
  pub stored : fit ≡ true → after ≡ joined stretches (data_of narrow s list symbols)
  pub kept : fit ≡ false → after ≡ before
