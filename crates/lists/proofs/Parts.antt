-- A part of a buffer that is lent and comes back: what then stands in each piece.
use mathlib.Core.Path.{◌≡◌, sym, ap, ◌∙◌}
use mathlib.Core.Logic.{◌≢◌, ◌⊎◌, inl, inr}
use mathlib.Core.List.{List, ◌++◌, append-nil}
use Prim.Native.Nat.{ℕ, ◌+◌, ◌*◌, ◌-◌, ◌≤◌, ◌<◌}
use native.Mathlib.Nat.{mul-le-mul_right, suc-mul}
use native.Mathlib.Omega.{arith}
use borrow.Rule.Slice.PartMut.{put_mid}
use lib.ListN.{length, get_or, take, drop, length-append, length-drop, drop_of_length-le, get_or-append}
use lib.Seq.{get_or-take, get_or-drop, length-take-le, ext_get_or, take_at, drop_at, take-length}
use Rattle.lists.specs.Lists.{flat, piece}
use Rattle.lists.proofs.Tests.{below_or_not}
use Rattle.lists.proofs.Tables.{at_behind}
use Rattle.lists.proofs.Flats.{piece_length, piece_at, piece_is, flat_none, flat_more, flat_length}
use Rattle.lists.proofs.Buffers.{part_of, part_put, onto, onto_none, onto_piece, onto_end}

-- a piece as it is lent
pub piece_part : {A : Type 0} (m i : ℕ) (l : List A) → take (i * m + m - i * m) (drop (i * m) l) ≡ piece m i l
unfolding piece
piece_part m i l = part_of (i * m) m l

pub row_within : (n m i : ℕ) → i < n → i * m + m ≤ n * m
row_within n m i h = omega (arith, mul-le-mul_right m h, suc-mul i m)

module _ (a m : ℕ) (l p : List ℕ) (room : a + m ≤ length l) (long : length p ≡ m) where
  abbrev put : List ℕ
  put = take a l ++ (p ++ drop (a + m) l)

  front : length (take a l) ≡ a
  front = length-take-le a l (omega arith)

  put_length : length put ≡ length l
  put_length = simp (length-append, length-drop) (omega (arith, front))

  put_in : (x : ℕ) → x < m → get_or put (a + x) 0 ≡ get_or p x 0
  put_in x h =
      at_behind (take a l) (p ++ drop (a + m) l) (a + x) 0 (omega (arith, front))
      ∙ ap (λ z. get_or (p ++ drop (a + m) l) z 0) (let e : a + x - length (take a l) ≡ x = omega (arith, front) in e)
      ∙ get_or-append p (drop (a + m) l) 0 x (omega arith)

  put_before : (x : ℕ) → x < a → get_or put x 0 ≡ get_or l x 0
  put_before x h = get_or-append (take a l) (p ++ drop (a + m) l) 0 x (omega (arith, front)) ∙ get_or-take a l x 0 h

  put_behind : (x : ℕ) → a + m ≤ x → get_or put x 0 ≡ get_or l x 0
  put_behind x h =
      at_behind (take a l) (p ++ drop (a + m) l) x 0 (omega (arith, front))
      ∙ at_behind p (drop (a + m) l) (x - length (take a l)) 0 (omega (arith, front))
      ∙ get_or-drop (a + m) l (x - length (take a l) - length p) 0
      ∙ ap (λ z. get_or l z 0) (let e : a + m + (x - length (take a l) - length p) ≡ x = omega (arith, front) in e)

-- piece i of n was lent and comes back as p
module _ (n m i : ℕ) (l p : List ℕ) (h : i < n) (all : length l ≡ n * m) (long : length p ≡ m) where
  fits : i * m + m ≤ length l
  fits = rw all (row_within n m i h)

  pub put_piece_length : length (put_mid (i * m) (i * m + m - i * m) l p) ≡ length l
  put_piece_length = ap length (part_put (i * m) m l p) ∙ put_length (i * m) m l p fits long

  pub put_piece : piece m i (put_mid (i * m) (i * m + m - i * m) l p) ≡ p
  put_piece =
      ap (piece m i) (part_put (i * m) m l p)
      ∙ piece_is n m i (put (i * m) m l p fits long) p 0 h (put_length (i * m) m l p fits long ∙ all) long (λ x k. put_in (i * m) m l p fits long x k)

  pub put_other : (j : ℕ) → j < n → j ≢ i → piece m j (put_mid (i * m) (i * m + m - i * m) l p) ≡ piece m j l
  put_other j k d =
      ap (piece m j) (part_put (i * m) m l p)
      ∙ piece_is n m j (put (i * m) m l p fits long) (piece m j l) 0 k (put_length (i * m) m l p fits long ∙ all)
      (piece_length m j l (rw all (row_within n m j k)))
      (λ x b. each x b (below_or_not j i) ∙ sym (piece_at m j l x 0 b))
    where
      each : (x : ℕ) → x < m → (j < i) ⊎ (i ≤ j) → get_or (put (i * m) m l p fits long) (j * m + x) 0 ≡ get_or l (j * m + x) 0
      each x b (inl q) = put_before (i * m) m l p fits long (j * m + x) (omega (arith, row_within i m j q))
      each x b (inr q) = let r : i < j = omega arith in put_behind (i * m) m l p fits long (j * m + x) (omega (arith, row_within j m i r))

-- a piece goes by the front of a list that holds it
pub piece_front : (n m i : ℕ) (l k : List ℕ) → i < n → n * m ≤ length l → n * m ≤ length k → take (n * m) l ≡ take (n * m) k → piece m i l ≡ piece m i k
piece_front n m i l k h r q e =
    ext_get_or 0 (piece m i l) (piece m i k) (long l r ∙ sym (long k q))
    (λ x b. let c : x < m = omega (arith, long l r) in
    piece_at m i l x 0 c ∙ sym (get_or-take (n * m) l (i * m + x) 0 (below x c)) ∙ ap (λ z. get_or z (i * m + x) 0) e ∙ get_or-take (n * m) k (i * m + x) 0 (below x c)
    ∙ sym (piece_at m i k x 0 c))
  where
    long : (l : List ℕ) → n * m ≤ length l → length (piece m i l) ≡ m
    long l r = piece_length m i l (omega (arith, row_within n m i h))

    below : (x : ℕ) → x < m → i * m + x < n * m
    below x c = omega (arith, row_within n m i h)

-- a loop that fills a buffer by pieces of m elements: piece j was lent and comes back as f j
module _ (m : ℕ) (f : ℕ → List ℕ) (each : (i : ℕ) → length (f i) ≡ m) (old : List ℕ) where
  pub flat_start : old ≡ onto (flat 0 f) old
  flat_start = onto_none old ∙ ap (λ z. onto z old) (sym (flat_none f))

  pub flat_put : (j : ℕ) (now p : List ℕ) → now ≡ onto (flat j f) old → p ≡ f j → put_mid (j * m) (j * m + m - j * m) now p ≡ onto (flat (j + 1) f) old
  flat_put j now p e q =
      ap (λ z. put_mid (j * m) (j * m + m - j * m) z p) e
      ∙ onto_piece (flat j f) old p (j * m) (j * m + m) (sym (flat_length m f j (λ i _. each i))) (ap (λ z. j * m + z) (sym (ap length q ∙ each j)))
      ∙ ap (λ z. onto z old) (ap (λ z. flat j f ++ z) q ∙ sym (flat_more j f))

  pub flat_whole : (j : ℕ) (now : List ℕ) → now ≡ onto (flat j f) old → length old ≡ j * m → now ≡ flat j f
  flat_whole j now e long = e ∙ onto_end (flat j f) old (flat_length m f j (λ i _. each i) ∙ sym long)

  pub flat_front : (j : ℕ) (now : List ℕ) → now ≡ onto (flat j f) old → take (j * m) now ≡ flat j f
  unfolding onto
  flat_front j now e = ap (take (j * m)) e ∙ take_at (flat j f) (drop (length (flat j f)) old) (j * m) (flat_length m f j (λ i _. each i))

-- the part from b to the end is lent, and comes back as p
module _ (b : ℕ) (l : List ℕ) (h : b ≤ length l) where
  pub tail_lent : take (length l - b) (drop b l) ≡ drop b l
  tail_lent = ap (λ z. take z (drop b l)) (sym (length-drop b l)) ∙ take-length (drop b l)

  module _ (p : List ℕ) (long : length p ≡ length l - b) where
    tail_put : put_mid b (length l - b) l p ≡ take b l ++ p
    tail_put =
        ap (λ z. take b l ++ (p ++ z)) (let q : length (drop b l) ≤ length l - b = omega (arith, length-drop b l) in drop_of_length-le (drop b l) q)
        ∙ ap (λ z. take b l ++ z) (append-nil p)

    front_length : length (take b l) ≡ b
    front_length = length-take-le b l h

    pub tail_length : length (put_mid b (length l - b) l p) ≡ length l
    tail_length = ap length tail_put ∙ length-append (take b l) p ∙ omega (arith, front_length)

    pub tail_front : take b (put_mid b (length l - b) l p) ≡ take b l
    tail_front = ap (take b) tail_put ∙ take_at (take b l) p b front_length

    pub tail_back : drop b (put_mid b (length l - b) l p) ≡ p
    tail_back = ap (drop b) tail_put ∙ drop_at (take b l) p b front_length
