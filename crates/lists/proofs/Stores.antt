-- A loop that stores an element at a time, by what holds of the element at each index that it passed.
use mathlib.Core.Path.{◌≡◌, sym, ap, ◌∙◌}
use mathlib.Core.Bool.{true, false, true≢false}
use mathlib.Core.List.{List}
use Prim.Native.Nat.{ℕ, ◌+◌, ◌≤◌, ◌<◌}
use native.Mathlib.Decide.{ℕ_discrete}
use native.Mathlib.Omega.{arith}
use lib.ListN.{length, get_or, set}
use lib.Seq.{get_or-set_same, get_or-set_other}
use Rattle.lists.specs.Lists.{member, rising}
use Rattle.lists.proofs.Members.{member_of, rising_below, rising_distinct}

-- P holds of the first i elements, each at its index; with v stored at i, of which it holds, it holds of the first i + 1
pub stored_more : {A : Type 0} (P : ℕ → A → Type 0) (l : List A) (i : ℕ) (v d : A) → i < length l → ((k : ℕ) → k < i → P k (get_or l k d)) → P i v
    → (k : ℕ) → k < i + 1 → P k (get_or (set l i v) k d)
stored_more P l i v d h before here k less = go (ℕ_discrete k i)
  where
    go : Dec (k ≡ i) → P k (get_or (set l i v) k d)
    go (yes e) = rw (e, get_or-set_same l i v d h) here
    go (no e) = rw (get_or-set_other l i k v d e) (before k (omega arith))

-- a loop that stores values at the entries that a rising list names: those that it passed hold their values, the unlisted are as they were
module _ (n : ℕ) (list values : List ℕ) (up : rising 0 n list ≡ true) (old column : List ℕ) (j : ℕ) (v : ℕ) (h : j < length list) (room : n ≤ length column) where
  pub listed_more : v ≡ get_or values j 0 → ((l : ℕ) → l < j → get_or column (get_or list l 0) 0 ≡ get_or values l 0)
      → (l : ℕ) → l < j + 1 → get_or (set column (get_or list j 0) v) (get_or list l 0) 0 ≡ get_or values l 0
  listed_more e before l k = go (ℕ_discrete l j)
    where
      go : Dec (l ≡ j) → get_or (set column (get_or list j 0) v) (get_or list l 0) 0 ≡ get_or values l 0
      go (yes z) = rw z (get_or-set_same column (get_or list j 0) v 0 (omega (arith, rising_below n list up j h)) ∙ e)
      go (no z) =
          get_or-set_other column (get_or list j 0) (get_or list l 0) v 0 (λ d. z (rising_distinct n list up l j (omega arith) h d))
          ∙ before l (omega arith)

  pub unlisted_more : ((i : ℕ) → member i list ≡ false → get_or column i 0 ≡ get_or old i 0)
      → (i : ℕ) → member i list ≡ false → get_or (set column (get_or list j 0) v) i 0 ≡ get_or old i 0
  unlisted_more before i e =
      get_or-set_other column (get_or list j 0) i v 0 (λ d. true≢false (sym (member_of list j h) ∙ ap (λ x. member x list) (sym d) ∙ e))
      ∙ before i e
