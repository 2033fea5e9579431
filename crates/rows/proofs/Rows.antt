-- A loop that stores a row, an element at a time.
use mathlib.Core.Path.{◌≡◌, refl, sym, ap, ◌∙◌}
use mathlib.Core.Logic.{◌⊎◌, inl, inr}
use mathlib.Core.List.{List}
use Prim.Native.Nat.{ℕ, ◌+◌, ◌-◌, ◌*◌, ◌/◌, ◌%◌, ◌≤◌, ◌<◌}
use native.Mathlib.Decide.{ℕ_discrete}
use native.Mathlib.Nat.{mod-eq_of_lt}
use native.Mathlib.Omega.{arith}
use lib.ListN.{length, get_or, take, drop, set, length-set, length-append, length-take, length-drop, replicate, length-replicate, get_or-replicate, get_or-eq_default}
use borrow.Rule.Slice.PartMut.{put_mid}
use borrow.Author.Rules.{rules}
use Rattle.std.proofs.lemmas.List.{places}
use lib.Seq.{get_or-set_same, get_or-set_other, get_or-take, get_or-drop}
use Rattle.lists.specs.Lists.{flat}
use Rattle.lists.proofs.Tests.{below_or_not}
use Rattle.lists.proofs.Flats.{flat_length, flat_at}
use Rattle.lists.proofs.Places.{place_of}
use Rattle.field.specs.Residues.{minus}
use Rattle.field.proofs.Residues.{mod_mul_mod, mul_mod_mod}
use Rattle.rows.specs.Rows.{Low, Stored}

pub stored_none : (at : ℕ) (f : ℕ → ℕ) (before : List ℕ) → Stored at 0 f before before
stored_none at f before = record { long = refl; there = λ i h. absurd (omega arith); ahead = λ e h. refl; behind = λ e h. refl }

pub stored_more : (at i : ℕ) (f : ℕ → ℕ) (before now : List ℕ) (v : ℕ) → Stored at i f before now → at + i < length before → v ≡ f i
    → Stored at (i + 1) f before (set now (at + i) v)
stored_more at i f before now v w room e = record {
  long = length-set now (at + i) v ∙ w.long;
  there = λ j h. go j h (ℕ_discrete j i);
  ahead = λ k h. get_or-set_other now (at + i) k v 0 (λ z. omega arith) ∙ w.ahead k h;
  behind = λ k h. get_or-set_other now (at + i) k v 0 (λ z. omega arith) ∙ w.behind k (omega arith);
}
  where
    go : (j : ℕ) → j < i + 1 → Dec (j ≡ i) → get_or (set now (at + i) v) (at + j) 0 ≡ f j
    go j h (yes d) = rw d (get_or-set_same now (at + i) v 0 (rw w.long room) ∙ e)
    go j h (no d) = get_or-set_other now (at + i) (at + j) v 0 (λ z. d (omega arith)) ∙ w.there j (omega arith)

-- from the front on
pub stored_front : (i : ℕ) (f : ℕ → ℕ) (before now : List ℕ) (v : ℕ) → Stored 0 i f before now → i < length before → v ≡ f i → Stored 0 (i + 1) f before (set now i v)
stored_front i f before now v w room e = let z : 0 + i ≡ i = omega arith in rw z at (stored_more 0 i f before now v w (rw z room) e)

-- a part of k elements that was lent holds f 0, f 1, .. when it comes back
pub stored_part : (at n k : ℕ) (f : ℕ → ℕ) (before part : List ℕ) → k ≡ n → at + n ≤ length before → length part ≡ n → ((i : ℕ) → i < n → get_or part i 0 ≡ f i)
    → Stored at n f before (put_mid at k before part)
stored_part at n k f before part same room long there = record {
  long = simp (length-append, length-take, length-drop) (omega arith);
  there = λ i h. search (rules, places);
  ahead = λ e h. search (rules, places);
  behind = λ e h. search (rules, places);
}

pub stored_low : (q at n : ℕ) (f : ℕ → ℕ) (before after : List ℕ) → Stored at n f before after → Low q before → ((i : ℕ) → i < n → f i < q) → Low q after
stored_low q at n f before after w low h = record { at = λ e. go e (below_or_not e at) (below_or_not e (at + n)) }
  where
    go : (e : ℕ) → (e < at) ⊎ (at ≤ e) → (e < at + n) ⊎ (at + n ≤ e) → get_or after e 0 < q
    go e (inl l) m = rw (w.ahead e l) (low.at e)
    go e (inr l) (inr m) = rw (w.behind e m) (low.at e)
    go e (inr l) (inl m) =
        let d : at + (e - at) ≡ e = omega arith in
        let g : e - at < n = omega arith in
        rw (sym (ap (λ k. get_or after k 0) d) ∙ w.there (e - at) g) (h (e - at) g)

-- where there is no element, 0 is read
pub low_each : (q : ℕ) (xs : List ℕ) → 0 < q → ((i : ℕ) → i < length xs → get_or xs i 0 < q) → Low q xs
low_each q xs o h = record { at = λ e. go e (below_or_not e (length xs)) }
  where
    go : (e : ℕ) → (e < length xs) ⊎ (length xs ≤ e) → get_or xs e 0 < q
    go e (inl l) = h e l
    go e (inr l) = rw (get_or-eq_default xs 0 {n = e} l) o

-- one value throughout
pub low_replicate : (q n v : ℕ) → v < q → Low q (replicate n v)
low_replicate q n v h = low_each q (replicate n v) (omega arith) (λ e l. rw (get_or-replicate n e v 0 (omega (arith, length-replicate n v))) h)

-- a part
pub low_part : (q n a : ℕ) (xs : List ℕ) → Low q xs → Low q (take n (drop a xs))
low_part q n a xs w =
    low_each q (take n (drop a xs)) (omega (arith, w.at 0))
    (λ e l. let k : e < n = omega (arith, length-take n (drop a xs)) in rw (get_or-take n (drop a xs) e 0 k, get_or-drop a xs e 0) (w.at (a + e)))

-- rows of m elements, one behind the other
pub low_flat : (q m n : ℕ) (f : ℕ → List ℕ) → 0 < q → ((i : ℕ) → length (f i) ≡ m) → ((i : ℕ) → i < n → Low q (f i)) → Low q (flat n f)
low_flat q m n f o long h =
    low_each q (flat n f) o
    (λ e l. let p = place_of n m e (rw (flat_length m f n (λ i _. long i)) at l) in
    rw (ap (λ k. get_or (flat n f) k 0) (sym p.whole) ∙ flat_at m f n (λ i _. long i) (e / m) (e % m) 0 p.row p.place) ((h (e / m) p.row).at (e % m)))

-- a difference that is not reduced serves a product as well
pub product_difference : (q a x y : ℕ) → y < q → (a * (x + q - y)) % q ≡ a * minus q x y % q
unfolding minus
product_difference q a x y h =
    ap (λ d. (a * d) % q) (let e : x + q - y ≡ x + (q - y) = omega arith in e) ∙ sym (mul_mod_mod a (x + (q - y)) q)
    ∙ ap (λ d. a * ((x + (q - d)) % q) % q) (sym (mod-eq_of_lt h))

pub product_opposite : (q t s : ℕ) → t < q → ((q - t) * s) % q ≡ minus q 0 t * s % q
unfolding minus
product_opposite q t s h =
    sym (mod_mul_mod (q - t) s q) ∙ ap (λ d. d % q * s % q) (let e : q - t ≡ 0 + (q - t) = omega arith in e)
    ∙ ap (λ d. (0 + (q - d)) % q * s % q) (sym (mod-eq_of_lt h))
