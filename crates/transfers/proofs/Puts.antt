-- Bytes written at a running place, by functions that each write some and hand on the place.
use mathlib.Core.Path.{◌≡◌, refl, sym, ap, ◌∙◌}
use mathlib.Core.List.{List, [], ◌++◌, append-nil}
use Prim.Native.Nat.{ℕ, ◌+◌, ◌≤◌}
use native.Mathlib.Omega.{arith}
use lib.ListN.{length, length-append}
use Rattle.lists.proofs.Writing.{Writing, writing_piece, writing_room, writing_end}
use Rattle.transfers.specs.Promises.{Puts}

module _ {xs old : List ℕ} {from : ℕ} {left now : List ℕ} {at : ℕ} (w : Writing xs old from left now at) where
  pub puts_next : {ys : List ℕ} (rest : List ℕ) {after : List ℕ} {next : ℕ} → left ≡ ys ++ rest → Puts ys now at after next → Writing xs old from rest after next
  puts_next {ys} rest e p = rw (p.place, p.held) (writing_piece w ys rest e)

  -- the last piece
  pub puts_last : {after : List ℕ} {next : ℕ} → Puts left now at after next → Puts xs old from after next
  puts_last p = let v = writing_end (puts_next [] (sym (append-nil left)) p) refl in record { place = v.0; held = v.1 }

  -- nothing is left
  pub puts_end : left ≡ [] → Puts xs old from now at
  puts_end e = let v = writing_end w e in record { place = v.0; held = v.1 }

  -- there is room for the next piece
  pub puts_room : (ys rest : List ℕ) → left ≡ ys ++ rest → from + length xs ≤ length old → at + length ys ≤ length now
  puts_room ys rest e h = omega (arith, writing_room w h, ap length e ∙ length-append ys rest)
