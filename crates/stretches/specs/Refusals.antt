-- When opening stretches turns back: the number of the first cause, 0 where it does its work.
use Rattle.std.specs.Prelude.{Bool, not, ◌||◌, List, ℕ, ◌+◌, ◌*◌, ◌%◌, eqb, leb, ltb, length}
use Rattle.lists.specs.Lists.{tabulate, range, all, below}
use Rattle.shape.specs.declared.Shape.{Shape}
use Rattle.shape.specs.Shape.{size, byte_values}
use Rattle.shape.specs.Refusals.{refuse, shape_bad, nodes_bad, wrong_length, symbol_bad}
use Rattle.code.specs.Code.{Code}
use Rattle.code.specs.Archive.{symbol, data_of}
use Rattle.stretches.specs.Stretches.{most_stretches, stretch_count, stretch_start, stretch_length, bytes_wanted, joined, touched_columns}

-- 4: "More than 64 stretches", an odd count of numbers, or a buffer that is not of exactly as many bytes as are wanted
unfoldable pub stretches_bad : List ℕ → ℕ → Bool
stretches_bad stretches room =
    ltb (2 * most_stretches) (length stretches) || not (eqb (length stretches % 2) 0) || wrong_length room (bytes_wanted stretches)

-- stretch m ends within `len` bytes
unfoldable pub ends_within : List ℕ → ℕ → ℕ → Bool
ends_within stretches len m = leb (stretch_start stretches m + stretch_length stretches m) len

-- 9: "a stretch ends past the transcript"
unfoldable pub past_end : List ℕ → ℕ → Bool
past_end stretches len = not (all (ends_within stretches len) (range 0 (stretch_count stretches)))

-- what the k nodes handed in hold at a column is below the modulus
unfoldable pub low_column : Code → Shape → List ℕ → ℕ → Bool
low_column c s symbols column = all (below c.modulus) (tabulate s.k (λ j. symbol s symbols j column))

-- "number 5 here looks only at touched columns"
unfoldable pub touched_bad : Code → Shape → List ℕ → List ℕ → Bool
touched_bad c s symbols stretches = not (all (low_column c s symbols) (touched_columns s stretches))

-- "and 7 only at wanted bytes": a wanted byte's data symbol is 256
unfoldable pub wanted_bad : Code → Shape → List ℕ → List ℕ → List ℕ → Bool
wanted_bad c s list symbols stretches = symbol_bad byte_values (joined stretches (data_of c s list symbols))

-- what is judged before a symbol is looked at, of `held` symbols and buffers of `room` bytes and `entries` numbers
unfoldable pub stretches_size_refusal : Shape → List ℕ → ℕ → ℕ → List ℕ → ℕ → ℕ → ℕ → ℕ
stretches_size_refusal s list held len stretches room entries rest =
    refuse (shape_bad s) 1
    (refuse (nodes_bad s.n s.k list) 2
    (refuse (wrong_length held (s.k * size s) || ltb (s.k * size s) len || stretches_bad stretches room || wrong_length entries (size s)) 4
    (refuse (past_end stretches len) 9 rest)))

-- 5, and 7 at last
unfoldable pub stretches_data_refusal : Code → Shape → List ℕ → List ℕ → List ℕ → ℕ
stretches_data_refusal c s list symbols stretches = refuse (touched_bad c s symbols stretches) 5 (refuse (wanted_bad c s list symbols stretches) 7 0)

unfoldable pub stretches_refusal : Code → Shape → List ℕ → List ℕ → ℕ → List ℕ → ℕ → ℕ → ℕ
stretches_refusal c s list symbols len stretches room entries =
    stretches_size_refusal s list (length symbols) len stretches room entries (stretches_data_refusal c s list symbols stretches)
