-- The library's words for tests over a list, in the words of these crates.
use mathlib.Core.Path.{◌≡◌, refl, ap, ◌∙◌}
use mathlib.Core.Bool.{Bool, ◌&&◌, ◌||◌}
use mathlib.Core.List.{List, [], ◌∷◌}
use Prim.Native.Nat.{ℕ}
use lib.Dec.{eqb}
use Rattle.std.specs.List.{list_any, list_all}
use Rattle.lists.specs.Lists.{all, member}
use Rattle.lists.proofs.Tests.{eqb_sym}

module _ {A : Type 0} (p : A → Bool) where
  pub all_passes : (xs : List A) → list_all p xs ≡ all p xs
  unfolding all
  all_passes [] = refl
  all_passes (x ∷ xs) = ap (λ b. p x && b) (all_passes xs)

pub member_any : (x : ℕ) (xs : List ℕ) → list_any (λ y. eqb y x) xs ≡ member x xs
unfolding member
member_any x [] = refl
member_any x (y ∷ ys) = ap (λ b. b || list_any (λ z. eqb z x) ys) (eqb_sym y x) ∙ ap (λ b. eqb x y || b) (member_any x ys)
