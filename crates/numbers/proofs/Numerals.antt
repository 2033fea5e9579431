-- A loop that writes numbers one behind the other: `Numerals vs old from i now at` holds when it comes to number i, at a place of the buffer.
use mathlib.Core.Path.{◌≡◌, ap, ◌∙◌}
use mathlib.Core.List.{List, ◌++◌, flat_map}
use Prim.Native.Nat.{ℕ, ◌+◌, ◌≤◌, ◌<◌}
use native.Mathlib.Omega.{arith}
use lib.ListN.{length, get_or, drop, drop_of_length-le, length-append}
use lib.Seq.{sets}
use Rattle.lists.proofs.Scans.{drop_next}
use Rattle.lists.proofs.Writing.{Writing, writing_piece, writing_room, writing_end}
use Rattle.numbers.specs.Numbers.{most_groups, numeral}

-- the numerals of vs are written over `old` from a place on, and those from number i on are still to come
abbrev pub Numerals : List ℕ → List ℕ → ℕ → ℕ → List ℕ → ℕ → Type 0
Numerals vs old from i now at = Writing (flat_map (numeral most_groups) vs) old from (flat_map (numeral most_groups) (drop i vs)) now at

module _ (vs old : List ℕ) (from i : ℕ) (now : List ℕ) (at : ℕ) (w : Numerals vs old from i now at) where
  next : i < length vs → flat_map (numeral most_groups) (drop i vs) ≡ numeral most_groups (get_or vs i 0) ++ flat_map (numeral most_groups) (drop (i + 1) vs)
  unfolding flat_map
  next h = rw (drop_next vs i 0 h)

  pub numerals_room : from + length (flat_map (numeral most_groups) vs) ≤ length old → i < length vs → at + length (numeral most_groups (get_or vs i 0)) ≤ length now
  numerals_room fits h = omega (
    arith,
    writing_room w fits,
    ap length (next h) ∙ length-append (numeral most_groups (get_or vs i 0)) (flat_map (numeral most_groups) (drop (i + 1) vs)),
  )

  -- number i was written over `now`, which is then `now'`, and the next place is at'
  pub numerals_next : (now' : List ℕ) (at' : ℕ) → i < length vs → at' ≡ at + length (numeral most_groups (get_or vs i 0)) → now' ≡ sets now at (numeral most_groups (get_or vs i 0))
      → Numerals vs old from (i + 1) now' at'
  numerals_next now' at' h e d = rw (e, d) (writing_piece w (numeral most_groups (get_or vs i 0)) _ (next h))

  pub numerals_end : length vs ≤ i
      → (at ≡ from + length (flat_map (numeral most_groups) vs)) × (now ≡ sets old from (flat_map (numeral most_groups) vs))
  unfolding flat_map
  numerals_end h = writing_end w (ap (flat_map (numeral most_groups)) (drop_of_length-le vs h))
