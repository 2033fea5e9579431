-- A signed change (document 02 §10; document 01: "A signed integer carried to its residue modulo 257, exact at zero and at both ends").
use Rattle.std.specs.Prelude.{Bool, false, not, ◌&&◌, ℕ, suc, ◌%◌, ltb, ℤ, pos, negsuc, ◌+ℤ◌, nat_abs}
use Rattle.field.specs.Residues.{minus}
use Rattle.shape.specs.Shape.{byte_values}

-- the number below q that a signed integer is congruent to
unfoldable pub to_residue : ℕ → ℤ → ℕ
to_residue q (pos n) = n % q
to_residue q (negsuc n) = minus q 0 (suc n)

-- "a signed change from −255 to 255"
unfoldable pub is_change : ℤ → Bool
is_change z = ltb (nat_abs z) byte_values

-- "0 to 255"
unfoldable pub is_byte : ℤ → Bool
is_byte (pos n) = ltb n byte_values
is_byte (negsuc n) = false

-- 12: "the change is outside its range or the data symbol plus the change leaves 0 to 255"
unfoldable pub change_bad : ℕ → ℤ → Bool
change_bad x z = not (is_change z && is_byte (pos x +ℤ z))

-- a signed integer that is not below 0, as a number
unfoldable pub to_number : ℤ → ℕ
to_number (pos n) = n
to_number (negsuc n) = 0

-- the data symbol plus the change
unfoldable pub moved : ℕ → ℤ → ℕ
moved x z = to_number (pos x +ℤ z)
