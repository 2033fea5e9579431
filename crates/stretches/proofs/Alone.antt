-- What is opened at a place depends on the k symbols there alone, and where these are below the modulus it is the data.
use mathlib.Core.Path.{◌≡◌, sym, ap, ◌∙◌}
use mathlib.Core.Bool.{true, false}
use mathlib.Core.List.{List}
use Prim.Native.Nat.{ℕ, ◌+◌, ◌*◌, ◌/◌, ◌%◌, ◌^◌, ◌≤◌, ◌<◌}
use native.Mathlib.Nat.{mod-lt, mod-eq_of_lt, mul-le-mul_right}
use native.Mathlib.Omega.{arith}
use lib.Arith.{digits_lt, digits_mod}
use lib.ListN.{length, get_or}
use lib.Seq.{get_or-take}
use Rattle.lists.specs.Lists.{tabulate, rising}
use Rattle.lists.proofs.Tables.{tabulate_length, tabulate_at}
use Rattle.lists.proofs.Places.{place_of}
use Rattle.lists.proofs.Sums.{sum_ext}
use Rattle.shape.specs.declared.Shape.{Shape}
use Rattle.shape.specs.Shape.{size}
use Rattle.shape.specs.Refusals.{shape_bad}
use Rattle.shape.proofs.Accepted.{shape_accepted}
use Rattle.column.proofs.Column.{completed_ext}
use Rattle.code.specs.Code.{Code, narrow}
use Rattle.code.specs.Archive.{symbol, place_points, restored_column, restored_symbol, restored, data_of}
use Rattle.factors.specs.Factors.{factor, weighed}
use Rattle.opening.specs.Steps.{Readable, opened}
use Rattle.opening.proofs.Places.{opened_listed, opened_data}

-- k nodes hold the same at a place
abbrev pub SameAt : Shape → List ℕ → List ℕ → ℕ → Type 0
SameAt s symbols other place = (j : ℕ) → j < s.k → symbol s other j place ≡ symbol s symbols j place

module _ (c : Code) (s : Shape) (list symbols other : List ℕ) (count : length list ≡ s.k) where
  column_alone : (place : ℕ) → SameAt s symbols other place → restored_column c s list other place ≡ restored_column c s list symbols place
  unfolding restored_column
  column_alone place same = completed_ext c.modulus (place_points c s place) list _ _ (λ j h. same j (omega (arith, count)))

  pub data_alone : (e : ℕ) → s.k ≤ s.n → e < s.k * size s → SameAt s symbols other (e % size s) → get_or (data_of c s list other) e 0 ≡ get_or (data_of c s list symbols) e 0
  unfolding data_of restored restored_symbol
  data_alone e fits h same =
      let g : e < s.n * size s = omega (arith, mul-le-mul_right (size s) fits) in
      get_or-take (s.k * size s) (restored c s list other) e 0 h ∙ tabulate_at (s.n * size s) (restored_symbol c s list other) e 0 g
      ∙ ap (λ z. get_or z (e / size s) 0) (column_alone (e % size s) same)
      ∙ sym (get_or-take (s.k * size s) (restored c s list symbols) e 0 h ∙ tabulate_at (s.n * size s) (restored_symbol c s list symbols) e 0 g)

opened_alone : (s : Shape) (list symbols other : List ℕ) (e : ℕ) → SameAt s symbols other (e % size s) → opened s list other e ≡ opened s list symbols e
unfolding opened weighed
opened_alone s list symbols other e same = ap (λ z. z % narrow.modulus) (sum_ext s.k _ _ (λ j h. ap (λ z. factor narrow s.n list (e % size s % 2 ^ s.n) (e / size s) j * z) (same j h)))

-- ---- symbols of any size, of which those at a place are below the modulus

module _ (s : Shape) (list symbols : List ℕ) (shape : shape_bad s ≡ false) (up : rising 0 s.n list ≡ true) (count : length list ≡ s.k) where
  -- the same where they are small, and small everywhere
  pub small : List ℕ
  small = tabulate (s.k * size s) (λ e. get_or symbols e 0 % narrow.modulus)

  small_length : length small ≡ s.k * size s
  unfolding small
  small_length = tabulate_length (s.k * size s) _

  small_at : (e : ℕ) → e < s.k * size s → get_or small e 0 ≡ get_or symbols e 0 % narrow.modulus
  unfolding small
  small_at e h = tabulate_at (s.k * size s) (λ e. get_or symbols e 0 % narrow.modulus) e 0 h

  pub small_readable : Readable s list small
  small_readable = record {
    shape = shape;
    up = up;
    count = count;
    long = small_length;
    small = λ e h. rw (small_at e (rw small_length at h)) (mod-lt _ (omega arith));
  }

  module _ (place : ℕ) (l : place < size s) (low : (j : ℕ) → j < s.k → symbol s symbols j place < narrow.modulus) where
    same : SameAt s symbols small place
    unfolding symbol
    same j h = small_at (j * size s + place) (digits_lt h l) ∙ mod-eq_of_lt (low j h)

    same_in : (i : ℕ) → SameAt s symbols small ((i * size s + place) % size s)
    same_in i = rw (digits_mod i l) same

    -- a listed node has its own symbol
    opened_own : (i j : ℕ) → i < s.k → j < s.k → get_or list j 0 ≡ i → opened s list symbols (i * size s + place) ≡ symbol s symbols j place
    opened_own i j h g e =
        sym (opened_alone s list symbols small (i * size s + place) (same_in i))
        ∙ opened_listed s list small small_readable i j place h g e l ∙ (unfold symbol in same j g)

    -- what is worked out is the data symbol
    pub opened_is : (i : ℕ) → i < s.k → opened s list symbols (i * size s + place) ≡ get_or (data_of narrow s list symbols) (i * size s + place) 0
    opened_is i h =
        sym (opened_alone s list symbols small (i * size s + place) (same_in i))
        ∙ opened_data s list small small_readable (i * size s + place) (digits_lt h l)
        ∙ data_alone narrow s list symbols small count (i * size s + place) (let w = shape_accepted s shape in omega (arith, w.k_high)) (digits_lt h l) (same_in i)

  -- a run of a listed node's, handed in
  pub own_row : (b run j : ℕ) → b < s.k * size s → b % size s + run ≤ size s
      → ((j t : ℕ) → j < s.k → t < run → get_or symbols (j * size s + b % size s + t) 0 < narrow.modulus)
      → j < length list → get_or list j 0 ≡ b / size s → (t : ℕ) → t < run → opened s list symbols (b + t) ≡ get_or symbols (j * size s + b % size s + t) 0
  unfolding symbol
  own_row b run j h fits low g e t l =
      let p = place_of s.k (size s) b h in
      let z : b + t ≡ b / size s * size s + (b % size s + t) = omega (arith, p.whole) in
      let y : (i : ℕ) → i * size s + b % size s + t ≡ i * size s + (b % size s + t) = λ i. omega arith in
      ap (opened s list symbols) z
      ∙ opened_own (b % size s + t) (omega arith) (λ i m. rw (← y i) (low i t m l)) (b / size s) j p.row (omega (arith, count)) e
      ∙ ap (λ x. get_or symbols x 0) (sym (y j))
