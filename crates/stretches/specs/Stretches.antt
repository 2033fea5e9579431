-- Stretches of a transcript (document 02 §2): the wanted bytes, the columns that they touch, and what the call gives.
use Rattle.std.specs.Prelude.{Bool, List, map, ◌++◌, ℕ, ◌+◌, ◌-◌, ◌*◌, ◌/◌, ◌%◌, length, get_or, replicate}
use Rattle.lists.specs.Lists.{range, flat, member, picked}
use Rattle.lists.specs.Sums.{sum}
use Rattle.shape.specs.declared.Shape.{Shape}
use Rattle.shape.specs.Shape.{size}

-- "Up to 64 stretches"
abbrev pub most_stretches : ℕ
most_stretches = 64

-- "(start and length ..)": the numbers handed in are start, length, start, length, ..
unfoldable pub stretch_count : List ℕ → ℕ
stretch_count stretches = length stretches / 2

unfoldable pub stretch_start : List ℕ → ℕ → ℕ
stretch_start stretches m = get_or stretches (2 * m) 0

unfoldable pub stretch_length : List ℕ → ℕ → ℕ
stretch_length stretches m = get_or stretches (2 * m + 1) 0

-- the bytes of the stretches before stretch m, and of all
unfoldable pub bytes_before : List ℕ → ℕ → ℕ
bytes_before stretches m = sum m (stretch_length stretches)

unfoldable pub bytes_wanted : List ℕ → ℕ
bytes_wanted stretches = bytes_before stretches (stretch_count stretches)

-- the numbers of the wanted bytes, "joined in the order given"
unfoldable pub wanted : List ℕ → List ℕ
wanted stretches = flat (stretch_count stretches) (λ m. range (stretch_start stretches m) (stretch_length stretches m))

-- "The bytes come out joined in the order given": those of some bytes that are wanted
unfoldable pub joined : List ℕ → List ℕ → List ℕ
joined stretches bytes = map (λ b. get_or bytes b 0) (wanted stretches)

-- "A column is a place common to all nodes, and is touched exactly if a wanted byte's symbol stands at it": byte b's stands "at place b mod N"
unfoldable pub touched : Shape → List ℕ → ℕ → Bool
touched s stretches column = member column (map (λ b. b % size s) (wanted stretches))

-- the touched columns, "one time, rising"
unfoldable pub touched_columns : Shape → List ℕ → List ℕ
touched_columns s stretches = picked (touched s stretches) (size s)

-- "a lent list of N entries afterwards holds each touched column one time, rising, then zeros"
unfoldable pub column_list : Shape → List ℕ → List ℕ
column_list s stretches = touched_columns s stretches ++ replicate (size s - length (touched_columns s stretches)) 0

-- "the number returned is k times the count of touched columns"
unfoldable pub symbols_read : Shape → List ℕ → ℕ
symbols_read s stretches = s.k * length (touched_columns s stretches)
