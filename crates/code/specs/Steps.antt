-- What is promised of the functions inside the calls.
use Rattle.std.specs.Prelude.{◌≡◌, Bool, cond, List, ℕ, ◌+◌, ◌*◌, ◌<◌, ltb, eqb, length, get_or}
use Rattle.shape.specs.Shape.{most_nodes, byte_values}

-- the first `count` entries are what as many nodes of `size` symbols hold at a place; 0 behind the end of what they hold
pub record Gathered (count size place : ℕ) (symbols out : List ℕ) : Type 0 where
  pub long : length out ≡ most_nodes
  pub each : (j : ℕ) → j < count → get_or out j 0 ≡ get_or symbols (j * size + place) 0

-- data symbol x may stand at e: it is no 256 within the length, and 0 beyond it
unfoldable pub data_fits : ℕ → ℕ → ℕ → Bool
data_fits len e x = cond (ltb e len) (ltb x byte_values) (eqb x 0)
