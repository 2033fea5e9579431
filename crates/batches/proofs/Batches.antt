-- The loops over the members of a class in the symbols of one batch.
use mathlib.Core.Path.{◌≡◌, refl, sym, ap, ◌∙◌}
use mathlib.Core.Logic.{◌≢◌, ◌⊎◌, inl, inr}
use mathlib.Core.List.{List}
use Prim.Native.Nat.{ℕ, zero, suc, ◌+◌, ◌-◌, ◌*◌, ◌%◌, ◌≤◌, ◌<◌}
use native.Mathlib.Omega.{arith}
use lib.Bits.{bit_xor, xor_zero_r}
use lib.ListN.{length, get_or, set, take, drop, length-set, length-take}
use lib.Seq.{get_or-set_same, get_or-set_other, set_comm, get_or-take, get_or-drop}
use Rattle.lists.specs.Lists.{range, element}
use Rattle.lists.proofs.Tests.{below_or_not}
use Rattle.lists.proofs.Tables.{range_length, range_at}
use Rattle.rows.specs.Rows.{Low}
use Rattle.rows.proofs.Rows.{low_each}
use Rattle.code.specs.Code.{Code}
use Rattle.field.specs.Residues.{minus}
use Rattle.batches.specs.Batches.{turned, Apart, added_in, Remain, PairedIn, LowNear, left_in, puts, crossed_from, Stored}

pub turned_is : (members : List ℕ) (turn x : ℕ) → turned members turn x ≡ bit_xor (get_or members x 0) turn
unfolding turned
turned_is members turn x = refl

pub turned_none : (members : List ℕ) (x : ℕ) → turned members 0 x ≡ get_or members x 0
unfolding turned
turned_none members x = xor_zero_r (get_or members x 0)

-- both places of a member's sum are in the batch
module _ {members : List ℕ} {near far room : ℕ} (A : Apart members near far room) (x : ℕ) (h : x < length members) where
  pub near_in : bit_xor (get_or members x 0) near < room
  near_in = rw turned_is at (A.near_low x h)

  pub far_in : bit_xor (get_or members x 0) far < room
  far_in = rw turned_is at (A.far_low x h)

-- where nothing turns, the near place is the member
pub first_in : {members : List ℕ} {far room : ℕ} → Apart members 0 far room → (x : ℕ) → x < length members → get_or members x 0 < room
first_in A x h = rw turned_none at (A.near_low x h)

-- x below n + 1 is below n, or n
pub upto : (x n : ℕ) → x < n + 1 → (x < n) ⊎ (x ≡ n)
upto x n h = go (below_or_not x n)
  where
    go : (x < n) ⊎ (n ≤ x) → (x < n) ⊎ (x ≡ n)
    go (inl l) = inl l
    go (inr l) = inr (omega arith)

module _ (place value : ℕ → ℕ) (old : List ℕ) where
  pub stored_more : (n t v : ℕ) (now : List ℕ) → Stored n place value old now → t ≡ place n → t < length old → ((x : ℕ) → x < n → place x ≢ place n) → v ≡ value n
      → Stored (n + 1) place value old (set now t v)
  stored_more n t v now A e room own q = record {
    long = length-set now t v ∙ A.long;
    each = λ x h. go x (upto x n h);
    rest = λ y h. get_or-set_other now t y v 0 (λ z. h n (omega arith) (sym (z ∙ e))) ∙ A.rest y (λ x l. h x (omega arith));
  }
    where
      go : (x : ℕ) → (x < n) ⊎ (x ≡ n) → get_or (set now t v) (place x) 0 ≡ value x
      go x (inl h) = get_or-set_other now t (place x) v 0 (λ z. own x h (z ∙ e)) ∙ A.each x h
      go x (inr h) = ap (λ z. get_or (set now t v) z 0) (ap place h ∙ sym e) ∙ get_or-set_same now t v 0 (rw A.long room) ∙ q ∙ ap value (sym h)

module _ (place value : ℕ → ℕ) where
  pub puts_none : (old : List ℕ) → old ≡ puts place value 0 old
  unfolding puts
  puts_none old = refl

  pub puts_next : (n t v : ℕ) (old now : List ℕ) → now ≡ puts place value n old → t ≡ place n → v ≡ value n → set now t v ≡ puts place value (suc n) old
  unfolding puts
  puts_next n t v old now e f g = ap (λ z. set z t v) e ∙ ap (λ z. set (puts place value n old) z v) f ∙ ap (set (puts place value n old) (place n)) g

  pub puts_ext : (place' value' : ℕ → ℕ) (n : ℕ) (old : List ℕ) → ((i : ℕ) → i < n → (place i ≡ place' i) × (value i ≡ value' i)) → puts place value n old ≡ puts place' value' n old
  unfolding puts
  puts_ext place' value' zero old h = refl
  puts_ext place' value' (suc n) old h =
      let l : n < suc n = omega arith in
      ap (λ z. set z (place n) (value n)) (puts_ext place' value' n old (λ i k. h i (omega arith))) ∙ ap (λ z. set (puts place' value' n old) z (value n)) (h n l).0
      ∙ ap (set (puts place' value' n old) (place' n)) (h n l).1

-- Every a is a member, and member x is x.
module _ (n x : ℕ) (h : x < n) where
  row_at : get_or (range 0 n) x 0 ≡ x
  row_at = range_at 0 n x h ∙ omega arith

  row_below : x < length (range 0 n)
  row_below = rw (range_length 0 n) h

  pub row_turned : (turn : ℕ) → turned (range 0 n) turn x ≡ bit_xor x turn
  row_turned turn = turned_is (range 0 n) turn x ∙ ap (λ z. bit_xor z turn) row_at

  pub row_first : turned (range 0 n) 0 x ≡ x
  row_first = turned_none (range 0 n) x ∙ row_at

  pub row_near : {far room : ℕ} → Apart (range 0 n) 0 far room → x < room
  row_near A = rw row_first at (A.near_low x row_below)

  pub row_far : {near far room : ℕ} → Apart (range 0 n) near far room → bit_xor x far < room
  row_far {far = far} A = rw (row_turned far) at (A.far_low x row_below)

  pub row_low : {q : ℕ} {symbols : List ℕ} → LowNear q (range 0 n) 0 symbols → get_or symbols x 0 < q
  row_low L = rw row_first at (L.each x row_below)

  pub row_added : (c : Code) (turn : ℕ) (symbols : List ℕ) → (get_or symbols x 0 + get_or symbols (bit_xor x turn) 0) % c.modulus ≡ added_in c (range 0 n) turn symbols x
  unfolding added_in
  row_added c turn symbols = rw (row_first, row_turned turn)

  pub row_left : (c : Code) (sums symbols : List ℕ) → minus c.modulus (get_or sums x 0) (get_or symbols x 0) ≡ left_in c (range 0 n) 0 sums symbols x
  unfolding left_in
  row_left c sums symbols = rw row_first

pub row_room : (n : ℕ) {far room : ℕ} → Apart (range 0 n) 0 far room → n ≤ room
row_room zero A = omega arith
row_room (suc n) A = let l : n < suc n = omega arith in omega (arith, row_near (suc n) n l A)

pub row_part : (q n x w : ℕ) (symbols : List ℕ) → 0 < q → LowNear q (range 0 n) 0 symbols → x + w ≤ n → Low q (take w (drop x symbols))
row_part q n x w symbols o L h =
    low_each q (take w (drop x symbols)) o
    (λ e l. let k : e < w = omega (arith, length-take w (drop x symbols)) in rw (get_or-take w (drop x symbols) e 0 k, get_or-drop x symbols e 0) (row_low n (x + e) (omega arith) L))

-- a run from x on, by the differences of the parts of both rows
pub row_crossed : (c : Code) (n x turn w : ℕ) (sums symbols old left now : List ℕ) → x + w ≤ n
    → Stored w (λ i. i) (λ i. minus c.modulus (get_or (take (x + w - x) (drop x sums)) i 0) (get_or (take (x + w - x) (drop x symbols)) i 0)) old left → length left ≡ w
    → now ≡ puts (λ i. bit_xor (x + i) turn) (element left) (length left) symbols → now ≡ crossed_from c (range 0 n) 0 turn sums symbols x w
unfolding crossed_from
row_crossed c n x turn w sums symbols old left now h D g f =
    f ∙ ap (λ z. puts (λ i. bit_xor (x + i) turn) (λ i. get_or left i 0) z symbols) g
    ∙ puts_ext _ _ (λ i. turned (range 0 n) turn (x + i)) (λ i. left_in c (range 0 n) 0 sums symbols (x + i)) w symbols (λ i k. (sym (row_turned n (x + i) (omega arith) turn), value i k))
  where
    part : (row : List ℕ) (i : ℕ) → i < w → get_or (take (x + w - x) (drop x row)) i 0 ≡ get_or row (x + i) 0
    part row i k = get_or-take (x + w - x) (drop x row) i 0 (omega arith) ∙ get_or-drop x row i 0

    value : (i : ℕ) → i < w → get_or left i 0 ≡ left_in c (range 0 n) 0 sums symbols (x + i)
    value i k =
        D.each i k ∙ ap (λ z. minus c.modulus z (get_or (take (x + w - x) (drop x symbols)) i 0)) (part sums i k) ∙ ap (minus c.modulus (get_or sums (x + i) 0)) (part symbols i k)
        ∙ row_left n (x + i) (omega arith) c sums symbols

module _ (c : Code) (members : List ℕ) (near far : ℕ) (sums : List ℕ) where
  -- Sums are stored from n on, where those before n are.
  module _ (old : List ℕ) (A : Apart members near far (length old)) (n : ℕ) (now : List ℕ) (S : Stored n (turned members far) (left_in c members near sums old) old now) where
    -- what stands at a near place stood there before
    near_kept : n ≤ length members → (x : ℕ) → x < length members → get_or now (turned members near x) 0 ≡ get_or old (turned members near x) 0
    near_kept l x h = S.rest (turned members near x) (λ y k z. A.apart x y h (omega arith) (sym z))

    left_kept : n ≤ length members → (x : ℕ) → x < length members → left_in c members near sums now x ≡ left_in c members near sums old x
    unfolding left_in
    left_kept l x h = ap (minus c.modulus (get_or sums x 0)) (near_kept l x h)

    pub low_kept : n ≤ length members → LowNear c.modulus members near old → LowNear c.modulus members near now
    low_kept l L = record { each = λ x h. rw (near_kept l x h) (L.each x h) }

    pub crossed_more : (count : ℕ) → n + count ≤ length members → Stored (n + count) (turned members far) (left_in c members near sums old) old (crossed_from c members near far sums now n count)
    unfolding crossed_from puts
    crossed_more zero l = let e : n + 0 ≡ n = omega arith in rw e S
    crossed_more (suc count) l =
        let e : n + suc count ≡ n + count + 1 = omega arith in
        rw e
        (stored_more (turned members far) (left_in c members near sums old) old (n + count) _ _ _ (crossed_more count (omega arith)) refl (A.far_low (n + count) (omega arith))
        (λ x h z. let d : x ≡ n + count = A.own x (n + count) (omega arith) (omega arith) z in omega arith) (left_kept (omega arith) (n + count) (omega arith)))

pub remain_more : (q n v : ℕ) (value : ℕ → ℕ) (now : List ℕ) → Remain q n value now → n < length now → v % q ≡ value n → Remain q (n + 1) value (set now n v)
remain_more q n v value now A room e = record { each = λ x h. go x (upto x n h) }
  where
    go : (x : ℕ) → (x < n) ⊎ (x ≡ n) → get_or (set now n v) x 0 % q ≡ value x
    go x (inl h) = ap (λ z. z % q) (get_or-set_other now n x v 0 (λ z. omega arith)) ∙ A.each x h
    go x (inr h) = ap (λ z. get_or (set now n v) z 0 % q) h ∙ ap (λ z. z % q) (get_or-set_same now n v 0 room) ∙ e ∙ ap value (sym h)

module _ (members : List ℕ) (turn : ℕ) (pairs : List ℕ) where
  pub paired_more : (n s t v w room : ℕ) (now : List ℕ) → Apart members 0 turn room → Apart members turn 0 room → PairedIn members turn pairs n now → n < length members
      → length now ≡ room → s ≡ turned members 0 n → t ≡ turned members turn n → v ≡ get_or pairs (n * 2 + 0) 0 → w ≡ get_or pairs (n * 2 + 1) 0
      → PairedIn members turn pairs (n + 1) (set (set now s v) t w)
  paired_more n s t v w room now P Q A l r d e f g = record { one = λ x h. one' x (upto x n h); other = λ x h. other' x (upto x n h) }
    where
      then : List ℕ
      then = set (set now s v) t w

      s_low : s < length now
      s_low = rw (d, r) (P.near_low n l)

      t_low : t < length (set now s v)
      t_low = rw (length-set now s v, e, r) (P.far_low n l)

      one' : (x : ℕ) → (x < n) ⊎ (x ≡ n) → get_or then (turned members 0 x) 0 ≡ get_or pairs (x * 2 + 0) 0
      one' x (inl h) =
          get_or-set_other (set now s v) t (turned members 0 x) w 0 (λ z. P.apart x n (omega arith) l (z ∙ e))
          ∙ get_or-set_other now s (turned members 0 x) v 0 (λ z. let q : x ≡ n = Q.own x n (omega arith) l (z ∙ d) in omega arith)
          ∙ A.one x h
      one' x (inr h) =
          ap (λ z. get_or then z 0) (ap (turned members 0) h ∙ sym d) ∙ get_or-set_other (set now s v) t s w 0 (λ z. P.apart n n l l (sym d ∙ z ∙ e))
          ∙ get_or-set_same now s v 0 s_low ∙ f ∙ ap (λ z. get_or pairs (z * 2 + 0) 0) (sym h)

      other' : (x : ℕ) → (x < n) ⊎ (x ≡ n) → get_or then (turned members turn x) 0 ≡ get_or pairs (x * 2 + 1) 0
      other' x (inl h) =
          get_or-set_other (set now s v) t (turned members turn x) w 0 (λ z. let q : x ≡ n = P.own x n (omega arith) l (z ∙ e) in omega arith)
          ∙ get_or-set_other now s (turned members turn x) v 0 (λ z. Q.apart x n (omega arith) l (z ∙ d))
          ∙ A.other x h
      other' x (inr h) =
          ap (λ z. get_or then z 0) (ap (turned members turn) h ∙ sym e) ∙ get_or-set_same (set now s v) t w 0 t_low ∙ g ∙ ap (λ z. get_or pairs (z * 2 + 1) 0) (sym h)

  -- two at a time, the first places before the others
  pub paired_two : (n s t u y v w p q room : ℕ) (now : List ℕ) → Apart members 0 turn room → Apart members turn 0 room → PairedIn members turn pairs n now → n + 1 < length members
      → length now ≡ room → s ≡ turned members 0 n → t ≡ turned members turn n → u ≡ turned members 0 (n + 1) → y ≡ turned members turn (n + 1)
      → v ≡ get_or pairs (n * 2 + 0) 0 → w ≡ get_or pairs (n * 2 + 1) 0 → p ≡ get_or pairs ((n + 1) * 2 + 0) 0 → q ≡ get_or pairs ((n + 1) * 2 + 1) 0
      → PairedIn members turn pairs (n + 2) (set (set (set (set now s v) u p) t w) y q)
  paired_two n s t u y v w p q room now P Q A l r d e f g h i j k =
      let one = paired_more n s t v w room now P Q A (omega arith) r d e h i in
      let two = paired_more (n + 1) u y p q room (set (set now s v) t w) P Q one l (length-set (set now s v) t w ∙ length-set now s v ∙ r) f g j k in
      let m : n + 1 + 1 ≡ n + 2 = omega arith in
      rw (m, set_comm (set now s v) t u w p (λ z. P.apart (n + 1) n l (omega arith) (sym f ∙ sym z ∙ e))) at two
