-- Decimal digits and lines: a digit or a number more, and how many bytes they have.
use mathlib.Core.Path.{◌≡◌, refl, sym, ap, ◌∙◌}
use mathlib.Core.Logic.{◌⊎◌, inl, inr}
use mathlib.Core.Bool.{cond}
use mathlib.Core.List.{List, [], ◌∷◌, ◌++◌}
use Prim.Native.Nat.{ℕ, zero, suc, ◌+◌, ◌-◌, ◌/◌, ◌%◌, ◌^◌, ◌≤◌, ◌<◌}
use native.Mathlib.Nat.{pow-suc}
use native.Mathlib.Omega.{arith}
use lib.Dec.{ltb}
use lib.ListN.{length, set, get_or, drop, length-append, length-drop, drop_of_length-le}
use lib.Seq.{sets, length-sets}
use Rattle.lists.proofs.Tests.{below_or_not, cond_below, cond_beyond}
use Rattle.lists.proofs.Scans.{drop_next}
use Rattle.lists.proofs.Writing.{sets_append}
use Rattle.transfers.specs.Plan.{digits, decimal, ending, line}
use Rattle.transfers.specs.Promises.{Puts}

-- ---- digits

-- enough fuel is as good as other
digits_fuel : (f g v : ℕ) → v < f → v < g → digits f v ≡ digits g v
unfolding digits
digits_fuel zero g v h k = absurd (omega arith)
digits_fuel (suc f) zero v h k = absurd (omega arith)
digits_fuel (suc f) (suc g) v h k = go (below_or_not v 10) (digits_fuel f g (v / 10))
  where
    go : (v < 10) ⊎ (10 ≤ v) → (v / 10 < f → v / 10 < g → digits f (v / 10) ≡ digits g (v / 10))
        → cond (ltb v 10) ((48 + v) ∷ []) (digits f (v / 10) ++ (48 + v % 10) ∷ []) ≡ cond (ltb v 10) ((48 + v) ∷ []) (digits g (v / 10) ++ (48 + v % 10) ∷ [])
    go (inl l) ih = cond_below _ _ v 10 l ∙ sym (cond_below _ _ v 10 l)
    go (inr l) ih = ap (λ t. cond (ltb v 10) ((48 + v) ∷ []) (t ++ (48 + v % 10) ∷ [])) (ih (omega arith) (omega arith))

pub decimal_one : (v : ℕ) → v < 10 → decimal v ≡ (48 + v) ∷ []
unfolding decimal digits
decimal_one v h = cond_below _ _ v 10 h

pub decimal_more : (v : ℕ) → 10 ≤ v → decimal v ≡ decimal (v / 10) ++ (48 + v % 10) ∷ []
unfolding decimal digits
decimal_more v h = cond_beyond _ _ v 10 h ∙ ap (λ t. t ++ (48 + v % 10) ∷ []) (digits_fuel v (suc (v / 10)) (v / 10) (omega arith) (omega arith))

pub decimal_length : (d v : ℕ) → v < 10 ^ suc d → length (decimal v) ≤ suc d
decimal_length zero v h = omega (arith, ap length (decimal_one v (omega arith)))
decimal_length (suc d) v h = go (below_or_not v 10) (decimal_length d (v / 10))
  where
    go : (v < 10) ⊎ (10 ≤ v) → (v / 10 < 10 ^ suc d → length (decimal (v / 10)) ≤ suc d) → length (decimal v) ≤ suc (suc d)
    go (inl l) ih = omega (arith, ap length (decimal_one v l))
    go (inr l) ih =
        omega (arith, ih (omega (arith, pow-suc 10 (suc d))), ap length (decimal_more v l) ∙ length-append (decimal (v / 10)) ((48 + v % 10) ∷ []))

-- ---- digits written at a place

pub digit_put : (v : ℕ) (old : List ℕ) (at : ℕ) → v < 10 → Puts (decimal v) old at (set old at (48 + v)) (at + 1)
digit_put v old at h = record { place = rw (decimal_one v h); held = rw (decimal_one v h) }

pub digit_room : (v : ℕ) → v < 10 → length (decimal v) ≡ 1
digit_room v h = ap length (decimal_one v h)

pub digits_room : (v : ℕ) → 10 ≤ v → length (decimal v) ≡ length (decimal (v / 10)) + 1
digits_room v h = ap length (decimal_more v h) ∙ length-append (decimal (v / 10)) ((48 + v % 10) ∷ [])

pub digits_inside : (v : ℕ) (old : List ℕ) (at : ℕ) (mid : List ℕ) (place : ℕ) → 10 ≤ v → Puts (decimal (v / 10)) old at mid place
    → at + length (decimal v) ≤ length old → place < length mid
digits_inside v old at mid place h p r = omega (arith, p.place, digits_room v h, ap length p.held ∙ length-sets old at (decimal (v / 10)))

pub digits_put : (v : ℕ) (old : List ℕ) (at : ℕ) (mid : List ℕ) (place : ℕ) → 10 ≤ v → Puts (decimal (v / 10)) old at mid place
    → Puts (decimal v) old at (set mid place (48 + v % 10)) (place + 1)
digits_put v old at mid place h p = record {
  place = omega (arith, p.place, digits_room v h);
  held =
      ap (λ l. set l place (48 + v % 10)) p.held
      ∙ ap (λ k. set (sets old at (decimal (v / 10))) k (48 + v % 10)) p.place
      ∙ sym (ap (sets old at) (decimal_more v h) ∙ sets_append (decimal (v / 10)) ((48 + v % 10) ∷ []) old at);
}

-- ---- lines

pub ending_none : (left : ℕ) → left ≡ 0 → ending left ≡ 10
unfolding ending
ending_none left e = rw e

pub ending_some : (left : ℕ) → (left ≡ 0 → ⊥) → ending left ≡ 32
unfolding ending
ending_some zero e = absurd (e refl)
ending_some (suc left) e = refl

-- the line from number i on
pub line_next : (xs : List ℕ) (i : ℕ) → i < length xs → line (drop i xs) ≡ decimal (get_or xs i 0) ++ ending (length xs - (i + 1)) ∷ line (drop (i + 1) xs)
unfolding line
line_next xs i h = rw (drop_next xs i 0 h, length-drop (i + 1) xs)

pub line_end : (xs : List ℕ) (i : ℕ) → length xs ≤ i → line (drop i xs) ≡ []
unfolding line
line_end xs i h = rw (drop_of_length-le xs h)

pub line_none : length (line []) ≤ 0
unfolding line
line_none = omega arith

-- a line with a number of at most d + 1 digits more
pub line_more : (d x : ℕ) (xs : List ℕ) (rest : ℕ) → x < 10 ^ suc d → length (line xs) ≤ rest → length (line (x ∷ xs)) ≤ suc d + 1 + rest
unfolding line
line_more d x xs rest h l = omega (arith, length-append (decimal x) (ending (length xs) ∷ line xs), decimal_length d x h)
