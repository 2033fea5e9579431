-- Lists without repeats as sets: a sum over one does not depend on its order.
use mathlib.Core.Path.{◌≡◌, refl, sym, ap, ap₂, ◌∙◌}
use mathlib.Core.Logic.{◌≢◌}
use mathlib.Core.Bool.{Bool, true, false, not, ◌&&◌, cond, true≢false, false≢true}
use mathlib.Core.List.{List, [], ◌∷◌, ◌++◌}
use Prim.Native.Nat.{ℕ, suc, ◌+◌, ◌≤◌}
use native.Mathlib.Decide.{ℕ_discrete}
use native.Mathlib.Omega.{arith}
use borrow.Author.Tests.{not-true}
use lib.Dec.{eqb}
use lib.ListN.{length, get_or, length-append}
use Rattle.lists.specs.Lists.{member}
use Rattle.lists.specs.Sums.{sum_over}
use Rattle.lists.proofs.Tests.{both, cond_equal, cond_unequal}
use Rattle.lists.proofs.Members.{Rises, member_head, member_tail, member_none, member_of, rises_member_low}
use Rattle.lists.proofs.Sums.{sum_ext, over_sum, over_one}
use Rattle.arrival.specs.Record.{distinct}

-- every member of a is one of b
abbrev pub Within : List ℕ → List ℕ → Type 0
Within a b = (y : ℕ) → member y a ≡ true → member y b ≡ true

pub no_member : (x : ℕ) → member x [] ≡ true → ⊥
no_member x e = false≢true (sym (member_none x) ∙ e)

-- ---- a list but its first x

without : ℕ → List ℕ → List ℕ
without x [] = []
without x (y ∷ ys) = cond (eqb x y) ys (y ∷ without x ys)

without_head : (x y : ℕ) (ys : List ℕ) → x ≡ y → without x (y ∷ ys) ≡ ys
unfolding without
without_head x y ys e = cond_equal ys (y ∷ without x ys) x y e

without_tail : (x y : ℕ) (ys : List ℕ) → x ≢ y → without x (y ∷ ys) ≡ y ∷ without x ys
unfolding without
without_tail x y ys e = cond_unequal ys (y ∷ without x ys) x y e

pub over_cons : (x : ℕ) (xs : List ℕ) (g : ℕ → ℕ) → sum_over (x ∷ xs) g ≡ g x + sum_over xs g
unfolding sum_over
over_cons x xs g = refl

-- a sum goes by what is added at the members
pub over_ext : (xs : List ℕ) (f g : ℕ → ℕ) → ((y : ℕ) → member y xs ≡ true → f y ≡ g y) → sum_over xs f ≡ sum_over xs g
over_ext xs f g h = over_sum xs f ∙ sum_ext (length xs) _ _ (λ j l. h (get_or xs j 0) (member_of xs j l)) ∙ sym (over_sum xs g)

without_over : (x : ℕ) (xs : List ℕ) (g : ℕ → ℕ) → member x xs ≡ true → sum_over xs g ≡ g x + sum_over (without x xs) g
without_over x [] g m = absurd (no_member x m)
without_over x (y ∷ ys) g m = go (ℕ_discrete x y) (without_over x ys g)
  where
    go : Dec (x ≡ y) → (member x ys ≡ true → sum_over ys g ≡ g x + sum_over (without x ys) g) → sum_over (y ∷ ys) g ≡ g x + sum_over (without x (y ∷ ys)) g
    go (yes e) ih = rw (without_head x y ys e) (omega (arith, over_cons y ys g, ap g e))
    go (no e) ih = rw (without_tail x y ys e) (omega (arith, over_cons y ys g, over_cons y (without x ys) g, ih (sym (member_tail x y ys e) ∙ m)))

without_length : (x : ℕ) (xs : List ℕ) → member x xs ≡ true → length xs ≡ suc (length (without x xs))
without_length x xs m = omega (arith, over_one xs, over_one (without x xs), without_over x xs (λ i. 1) m)

without_member : (x y : ℕ) (xs : List ℕ) → y ≢ x → member y xs ≡ true → member y (without x xs) ≡ true
without_member x y [] d m = absurd (no_member y m)
without_member x y (z ∷ zs) d m = go (ℕ_discrete x z) (ℕ_discrete y z) (without_member x y zs d)
  where
    go : Dec (x ≡ z) → Dec (y ≡ z) → (member y zs ≡ true → member y (without x zs) ≡ true) → member y (without x (z ∷ zs)) ≡ true
    go (yes e) (yes f) ih = absurd (d (f ∙ sym e))
    go (yes e) (no f) ih = rw (without_head x z zs e) (sym (member_tail y z zs f) ∙ m)
    go (no e) (yes f) ih = rw (without_tail x z zs e) (member_head y z _ f)
    go (no e) (no f) ih = rw (without_tail x z zs e) (member_tail y z _ f ∙ ih (sym (member_tail y z zs f) ∙ m))

-- ---- lists without repeats

pub distinct_cons : (x : ℕ) (xs : List ℕ) → distinct (x ∷ xs) ≡ true → (member x xs ≡ false) × (distinct xs ≡ true)
unfolding distinct
distinct_cons x xs d = let w = both (not (member x xs)) (distinct xs) d in (not-true _ w.0, w.1)

cons_distinct : (x : ℕ) (xs : List ℕ) → member x xs ≡ false → distinct xs ≡ true → distinct (x ∷ xs) ≡ true
unfolding distinct
cons_distinct x xs m d = ap₂ (λ a b. not a && b) m d

pub none_distinct : distinct [] ≡ true
unfolding distinct
none_distinct = refl

module _ (x : ℕ) (xs b : List ℕ) (d : distinct (x ∷ xs) ≡ true) (h : Within (x ∷ xs) b) where
  first_in : member x b ≡ true
  first_in = h x (member_head x x xs refl)

  rest_within : Within xs (without x b)
  rest_within y m = go (ℕ_discrete y x)
    where
      go : Dec (y ≡ x) → member y (without x b) ≡ true
      go (yes e) = absurd (true≢false (sym (sym (ap (λ u. member u xs) e) ∙ m) ∙ (distinct_cons x xs d).0))
      go (no e) = without_member x y b e (h y (member_tail y x xs e ∙ m))

pub within_fits : (a b : List ℕ) → distinct a ≡ true → Within a b → length a ≤ length b
within_fits [] b d h = omega arith
within_fits (x ∷ xs) b d h =
    omega (arith, within_fits xs (without x b) (distinct_cons x xs d).1 (rest_within x xs b d h), without_length x b (first_in x xs b d h))

-- as many, and none twice: the same members
pub over_same : (a b : List ℕ) (g : ℕ → ℕ) → distinct a ≡ true → Within a b → length a ≡ length b → sum_over a g ≡ sum_over b g
over_same [] [] g d h e = refl
over_same [] (y ∷ ys) g d h e = absurd (omega arith)
over_same (x ∷ xs) b g d h e =
    over_cons x xs g
    ∙ ap (λ u. g x + u) (over_same xs (without x b) g (distinct_cons x xs d).1 (rest_within x xs b d h) (omega (arith, without_length x b (first_in x xs b d h))))
    ∙ sym (without_over x b g (first_in x xs b d h))

pub rises_distinct : (a n : ℕ) (xs : List ℕ) → Rises a n xs → distinct xs ≡ true
rises_distinct a n [] u = none_distinct
rises_distinct a n (x ∷ xs) u = cons_distinct x xs (rises_member_low (suc x) n x xs u.2 (omega arith)) (rises_distinct (suc x) n xs u.2)

-- ---- one more, behind

member_other : (y h : ℕ) (xs : List ℕ) → y ≢ h → member y (xs ++ h ∷ []) ≡ member y xs
member_other y h [] n = member_tail y h [] n
member_other y h (x ∷ xs) n = go (ℕ_discrete y x) (member_other y h xs n)
  where
    go : Dec (y ≡ x) → member y (xs ++ h ∷ []) ≡ member y xs → member y (x ∷ xs ++ h ∷ []) ≡ member y (x ∷ xs)
    go (yes e) ih = member_head y x _ e ∙ sym (member_head y x xs e)
    go (no e) ih = member_tail y x _ e ∙ ih ∙ sym (member_tail y x xs e)

pub distinct_more : (h : ℕ) (xs : List ℕ) → distinct xs ≡ true → member h xs ≡ false → distinct (xs ++ h ∷ []) ≡ true
distinct_more h [] d n = cons_distinct h [] (member_none h) none_distinct
distinct_more h (x ∷ xs) d n = go (ℕ_discrete x h) (distinct_more h xs)
  where
    go : Dec (x ≡ h) → (distinct xs ≡ true → member h xs ≡ false → distinct (xs ++ h ∷ []) ≡ true) → distinct (x ∷ xs ++ h ∷ []) ≡ true
    go (yes e) ih = absurd (true≢false (sym (member_head h x xs (sym e)) ∙ n))
    go (no e) ih =
        cons_distinct x (xs ++ h ∷ []) (member_other x h xs e ∙ (distinct_cons x xs d).0)
        (ih (distinct_cons x xs d).1 (sym (member_tail h x xs (λ g. e (sym g))) ∙ n))

pub within_more : (h : ℕ) (xs b : List ℕ) → Within xs b → member h b ≡ true → Within (xs ++ h ∷ []) b
within_more h xs b w m y n = go (ℕ_discrete y h)
  where
    go : Dec (y ≡ h) → member y b ≡ true
    go (yes e) = ap (λ z. member z b) e ∙ m
    go (no e) = w y (sym (member_other y h xs e) ∙ n)

-- as many, and none twice: no other members
pub within_back : (a b : List ℕ) → distinct a ≡ true → Within a b → length b ≤ length a → Within b a
within_back a b d w h y m = go (member y a) refl
  where
    go : (t : Bool) → member y a ≡ t → member y a ≡ true
    go true e = e
    go false e = absurd (omega (arith, within_fits (a ++ y ∷ []) b (distinct_more y a d e) (within_more y a b w m), length-append a (y ∷ [])))
