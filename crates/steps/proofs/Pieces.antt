-- A loop over pieces of a buffer, batch by batch.
use mathlib.Core.Path.{◌≡◌, ◌∙◌}
use mathlib.Core.Logic.{◌⊎◌, inl, inr}
use mathlib.Core.List.{List}
use Prim.Native.Nat.{ℕ, ◌+◌, ◌*◌, ◌-◌, ◌≤◌, ◌<◌}
use native.Mathlib.Omega.{arith}
use borrow.Rule.Slice.PartMut.{put_mid}
use lib.ListN.{length}
use Rattle.lists.specs.Lists.{piece}
use Rattle.batches.proofs.Batches.{upto}
use Rattle.lists.proofs.Parts.{put_piece, put_other, put_piece_length}

-- of n pieces of m elements, the first b are as P says, and the others as they were
pub record Pieces (n m : ℕ) (P : ℕ → List ℕ → List ℕ → Type 0) (b : ℕ) (old now : List ℕ) : Type 0 where
  pub long : length now ≡ length old
  pub done : (i : ℕ) → i < b → P i (piece m i old) (piece m i now)
  pub left : (i : ℕ) → b ≤ i → i < n → piece m i now ≡ piece m i old

module _ (n m : ℕ) (P : ℕ → List ℕ → List ℕ → Type 0) (old : List ℕ) where
  pub pieces_more : (b : ℕ) (now p : List ℕ) → length old ≡ n * m → b < n → Pieces n m P b old now → P b (piece m b now) p → length p ≡ m
      → Pieces n m P (b + 1) old (put_mid (b * m) (b * m + m - b * m) now p)
  pieces_more b now p all h A q long = record {
    long = put_piece_length n m b now p h (A.long ∙ all) long ∙ A.long;
    done = λ i l. go i (upto i b l);
    left = λ i l k. put_other n m b now p h (A.long ∙ all) long i k (λ z. omega arith) ∙ A.left i (omega arith) k;
  }
    where
      go : (i : ℕ) → (i < b) ⊎ (i ≡ b) → P i (piece m i old) (piece m i (put_mid (b * m) (b * m + m - b * m) now p))
      go i (inl l) = rw (put_other n m b now p h (A.long ∙ all) long i (omega arith) (λ z. omega arith)) (A.done i l)
      go i (inr e) = rw (e, put_piece n m b now p h (A.long ∙ all) long, ← (A.left b (omega arith) h)) q
