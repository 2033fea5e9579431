-- Loops that write a line, a number at a time, and many lines, one at a time.
use mathlib.Core.Path.{◌≡◌, refl, ap}
use mathlib.Core.List.{List, ◌∷◌, ◌++◌, flat_map}
use Prim.Native.Nat.{ℕ, ◌+◌, ◌-◌, ◌≤◌, ◌<◌}
use native.Mathlib.Omega.{arith}
use lib.ListN.{length, get_or, set, drop, drop_of_length-le}
use Rattle.lists.proofs.Scans.{drop_next}
use Rattle.lists.proofs.Writing.{Writing, writing_all, writing_next, writing_room}
use Rattle.transfers.specs.Plan.{decimal, ending, line}
use Rattle.transfers.specs.Promises.{Puts}
use Rattle.transfers.proofs.Decimals.{line_next, line_end}
use Rattle.transfers.proofs.Puts.{puts_next, puts_room, puts_end}

-- ---- a line: its numbers from number i on are still to be written

abbrev pub Line : List ℕ → List ℕ → ℕ → ℕ → List ℕ → ℕ → Type 0
Line xs old from i now at = Writing (line xs) old from (line (drop i xs)) now at

pub line_start : (xs old : List ℕ) (from : ℕ) → Line xs old from 0 old from
line_start xs old from = writing_all (line xs) old from

module _ (xs old : List ℕ) (from i : ℕ) (now : List ℕ) (at : ℕ) (w : Line xs old from i now at) where
  pub line_done : length xs ≤ i → Puts (line xs) old from now at
  line_done h = puts_end w (line_end xs i h)

  module _ (h : i < length xs) where
    pub number_room : from + length (line xs) ≤ length old → at + length (decimal (get_or xs i 0)) ≤ length now
    number_room r = puts_room w (decimal (get_or xs i 0)) (ending (length xs - (i + 1)) ∷ line (drop (i + 1) xs)) (line_next xs i h) r

    module _ (mid : List ℕ) (place : ℕ) (p : Puts (decimal (get_or xs i 0)) now at mid place) where
      behind : Writing (line xs) old from (ending (length xs - (i + 1)) ∷ line (drop (i + 1) xs)) mid place
      behind = puts_next w _ (line_next xs i h) p

      pub ending_inside : from + length (line xs) ≤ length old → place < length mid
      ending_inside r = omega (arith, writing_room behind r)

      pub line_step : (v : ℕ) → v ≡ ending (length xs - (i + 1)) → Line xs old from (i + 1) (set mid place v) (place + 1)
      line_step v e = rw e (writing_next behind _ _ refl)

-- ---- many lines: those of the elements from element i on are still to be written

module _ {A : Type 0} (f : A → List ℕ) where
  abbrev pub Lines : List A → List ℕ → ℕ → ℕ → List ℕ → ℕ → Type 0
  Lines ts old from i now at = Writing (flat_map f ts) old from (flat_map f (drop i ts)) now at

  pub lines_start : (ts : List A) (old : List ℕ) (from : ℕ) → Lines ts old from 0 old from
  lines_start ts old from = writing_all (flat_map f ts) old from

  module _ (d : A) (ts : List A) (old : List ℕ) (from i : ℕ) (now : List ℕ) (at : ℕ) (w : Lines ts old from i now at) where
    next : i < length ts → flat_map f (drop i ts) ≡ f (get_or ts i d) ++ flat_map f (drop (i + 1) ts)
    unfolding flat_map
    next h = rw (drop_next ts i d h)

    pub lines_room : i < length ts → from + length (flat_map f ts) ≤ length old → at + length (f (get_or ts i d)) ≤ length now
    lines_room h r = puts_room w (f (get_or ts i d)) (flat_map f (drop (i + 1) ts)) (next h) r

    pub lines_step : (mid : List ℕ) (place : ℕ) → i < length ts → Puts (f (get_or ts i d)) now at mid place → Lines ts old from (i + 1) mid place
    lines_step mid place h p = puts_next w _ (next h) p

    pub lines_done : length ts ≤ i → Puts (flat_map f ts) old from now at
    unfolding flat_map
    lines_done h = puts_end w (ap (flat_map f) (drop_of_length-le ts h))
