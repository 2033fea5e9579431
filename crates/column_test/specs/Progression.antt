-- Points at equal distances.
use Rattle.std.specs.Prelude.{ℕ, ◌+◌, ◌*◌}

-- point i of those from base on
unfoldable pub stepped : ℕ → ℕ → ℕ → ℕ
stepped base step i = base + i * step
