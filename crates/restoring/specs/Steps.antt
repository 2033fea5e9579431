-- What is promised of the functions inside restoring.
use Rattle.std.specs.Prelude.{◌≡◌, List, ℕ, ◌+◌, ◌*◌, ◌<◌, length, get_or}

-- the symbols of the first m listed nodes stand where these nodes do
pub record ListedPlaced (each : ℕ) (list symbols : List ℕ) (m : ℕ) (before after : List ℕ) : Type 0 where
  pub long : length after ≡ length before
  pub there : (j p : ℕ) → j < m → p < each → get_or after (get_or list j 0 * each + p) 0 ≡ get_or symbols (j * each + p) 0
