-- What the loops over the members of a rank's class do in the symbols of one batch.
use Rattle.std.specs.Prelude.{◌≡◌, List, ℕ, zero, suc, ◌+◌, ◌*◌, ◌%◌, ◌<◌, length, get_or, set}
use Rattle.std.specs.Int.Bits.{bit_xor}
use Rattle.field.specs.Residues.{minus}
use Rattle.code.specs.Code.{Code}

-- The place of member x in the symbols of its batch: the first of its sum where nothing turns, and the other one by the rank's turn.
unfoldable pub turned : List ℕ → ℕ → ℕ → ℕ
turned members turn x = bit_xor (get_or members x 0) turn

-- all places are within the batch, no two far ones are one, and no near one is a far one
pub record Apart (members : List ℕ) (near far room : ℕ) : Type 0 where
  pub near_low : (x : ℕ) → x < length members → turned members near x < room
  pub far_low : (x : ℕ) → x < length members → turned members far x < room
  pub own : (x y : ℕ) → x < length members → y < length members → turned members far x ≡ turned members far y → x ≡ y
  pub apart : (x y : ℕ) → x < length members → y < length members → turned members near x ≡ turned members far y → ⊥

-- sum x of a batch with these symbols
unfoldable pub added_in : Code → List ℕ → ℕ → List ℕ → ℕ → ℕ
added_in c members turn symbols x = (get_or symbols (turned members 0 x) 0 + get_or symbols (turned members turn x) 0) % c.modulus

-- the first `count` numbers of a row leave these remainders
pub record Remain (q count : ℕ) (value : ℕ → ℕ) (row : List ℕ) : Type 0 where
  pub each : (x : ℕ) → x < count → get_or row x 0 % q ≡ value x

-- number x of a row, modulo q
unfoldable pub remainder : ℕ → List ℕ → ℕ → ℕ
remainder q row x = get_or row x 0 % q

-- the first `count` own pairs stand at their places
pub record PairedIn (members : List ℕ) (turn : ℕ) (pairs : List ℕ) (count : ℕ) (symbols : List ℕ) : Type 0 where
  pub one : (x : ℕ) → x < count → get_or symbols (turned members 0 x) 0 ≡ get_or pairs (x * 2 + 0) 0
  pub other : (x : ℕ) → x < count → get_or symbols (turned members turn x) 0 ≡ get_or pairs (x * 2 + 1) 0

-- the symbols at the near places are below q
pub record LowNear (q : ℕ) (members : List ℕ) (near : ℕ) (symbols : List ℕ) : Type 0 where
  pub each : (x : ℕ) → x < length members → get_or symbols (turned members near x) 0 < q

-- what is left of sum x where the symbol at its near place is taken away
unfoldable pub left_in : Code → List ℕ → ℕ → List ℕ → List ℕ → ℕ → ℕ
left_in c members near sums symbols x = minus c.modulus (get_or sums x 0) (get_or symbols (turned members near x) 0)

-- these symbols, with `count` values put at their places, one behind the other
unfoldable pub puts : (ℕ → ℕ) → (ℕ → ℕ) → ℕ → List ℕ → List ℕ
puts place value zero symbols = symbols
puts place value (suc count) symbols = set (puts place value count symbols) (place count) (value count)

-- these symbols, with what is left of `count` sums from x on at their far places
unfoldable pub crossed_from : Code → List ℕ → ℕ → ℕ → List ℕ → List ℕ → ℕ → ℕ → List ℕ
crossed_from c members near far sums symbols x count = puts (λ i. turned members far (x + i)) (λ i. left_in c members near sums symbols (x + i)) count symbols

-- the first `count` values stand at their places, and elsewhere what stood there
pub record Stored (count : ℕ) (place value : ℕ → ℕ) (before after : List ℕ) : Type 0 where
  pub long : length after ≡ length before
  pub each : (x : ℕ) → x < count → get_or after (place x) 0 ≡ value x
  pub rest : (y : ℕ) → ((x : ℕ) → x < count → place x ≡ y → ⊥) → get_or after y 0 ≡ get_or before y 0
