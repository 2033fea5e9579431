-- The layers of a batch ("Repair").
use Rattle.std.specs.Prelude.{cond, ℕ, zero, suc, ◌/◌, ◌%◌, eqb}

-- s of "Write h+1 = s × 2^m with s odd", where x is h + 1: x without its factors 2; fuel bounds the halvings
unfoldable pub odd_part : ℕ → ℕ → ℕ
odd_part zero x = x
odd_part (suc fuel) x = cond (eqb (x % 2) 0) (odd_part fuel (x / 2)) x
