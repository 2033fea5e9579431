-- What is promised of the functions inside writing.
use Rattle.std.specs.Prelude.{◌≡◌, List, ℕ, ◌<◌, length, get_or}

-- 0 throughout
unfoldable pub nothing : ℕ → ℕ
nothing i = 0

-- the first `due` symbols are the transcript's bytes, and 0 behind its end
pub record DataStored (due : ℕ) (transcript before after : List ℕ) : Type 0 where
  pub long : length after ≡ length before
  pub each : (e : ℕ) → e < due → get_or after e 0 ≡ get_or transcript e 0
