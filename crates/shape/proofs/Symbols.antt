-- Symbols looked at one by one, whether or not one was bad: all are below q where none was not, and all that are left are.
use mathlib.Core.Path.{◌≡◌, refl, sym, ap, ◌∙◌}
use mathlib.Core.Bool.{Bool, true, false, not, ◌&&◌, ◌||◌}
use mathlib.Core.List.{List}
use Prim.Native.Nat.{ℕ, ◌+◌, ◌<◌}
use borrow.Author.Tests.{le-ltb, lt-ltb, leb-true, leb-false}
use lib.Dec.{leb}
use lib.ListN.{length, get_or, drop}
use Rattle.lists.specs.Lists.{all, below}
use Rattle.lists.proofs.Scans.{all_pass, all_fail}

-- one symbol more is looked at
pub bad_more : (q i : ℕ) (s : List ℕ) (bad : Bool) → i < length s → all (below q) s ≡ (not bad && all (below q) (drop i s))
    → all (below q) s ≡ (not (bad || leb q (get_or s i 0)) && all (below q) (drop (i + 1) s))
unfolding below
bad_more q i s bad h e = go (leb q (get_or s i 0)) refl bad e
  where
    go : (t : Bool) → leb q (get_or s i 0) ≡ t → (bad : Bool) → all (below q) s ≡ (not bad && all (below q) (drop i s))
        → all (below q) s ≡ (not (bad || leb q (get_or s i 0)) && all (below q) (drop (i + 1) s))
    go t k true e = e
    go true k false e =
        e ∙ all_fail (below q) s i h (le-ltb _ q (leb-true _ _ k)) ∙ sym (ap (λ z. not z && all (below q) (drop (i + 1) s)) k)
    go false k false e =
        e ∙ all_pass (below q) s i h (lt-ltb _ q (leb-false _ _ k)) ∙ sym (ap (λ z. not z && all (below q) (drop (i + 1) s)) k)

-- none is left
pub bad_all : (bad x : Bool) → x ≡ (not bad && true) → bad ≡ not x
bad_all true x e = rw e
bad_all false x e = rw e
