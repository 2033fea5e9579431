-- Which values a list of losses has decides: "the empty list gives 1, repeats change nothing", and neither does the order (document 02 §6).
use mathlib.Core.Path.{◌≡◌, refl, sym, ap, fun_ext, ◌∙◌}
use mathlib.Core.Bool.{Bool, true, false}
use mathlib.Core.List.{List, [], ◌∷◌}
use Prim.Native.Nat.{ℕ, ◌-◌}
use native.Mathlib.Omega.{arith}
use lib.ListN.{get_or}
use Rattle.lists.specs.Lists.{all, member, first_from}
use Rattle.lists.proofs.Tests.{at_all}
use Rattle.lists.proofs.Members.{member_of, all_member}
use Rattle.shape.specs.Shape.{most_layers, within}
use Rattle.shape.specs.declared.Refusal.{Refusal}
use Rattle.shape.specs.Refusals.{answer_number, answer_values, afterwards}
use Rattle.shape.proofs.Answers.{number_positive}
use Rattle.std.specs.Prelude.{Result, Ok, Err}
use Rattle.choosing.specs.Layers.{serves, serves_all, least_layers, counts_bad, losses_bad, no_layers, layers_refusal}
use Rattle.choosing.specs.Promises.{Chooses}

least_none : least_layers [] ≡ 1
unfolding least_layers first_from serves_all all
least_none = refl

-- "the empty list gives 1": a call that is handed it, and an n and k in their ranges
pub empty_one : (n k : ℕ) (answer : Result ℕ Refusal) → counts_bad n k ≡ false → Chooses n k [] answer → answer ≡ Ok 1
unfolding afterwards layers_refusal losses_bad no_layers all
empty_one n k answer e p = go answer (p.number ∙ none) (p.returned ∙ rw (none, least_none) refl)
  where
    none : layers_refusal n k [] ≡ 0
    none = rw (e, least_none) refl

    go : (a : Result ℕ Refusal) → answer_number a ≡ 0 → answer_values a ≡ 1 ∷ [] → a ≡ Ok 1
    go (Ok layers) z v = ap (λ xs. Ok (get_or xs 0 0)) v
    go (Err cause) z v = absurd (omega (arith, number_positive cause))

-- what passes at every value of a list passes at every value of a list that has no others
all_fewer : (p : ℕ → Bool) (xs ys : List ℕ) → ((h : ℕ) → member h ys ≡ member h xs) → all p xs ≡ true → all p ys ≡ true
all_fewer p xs ys same e = at_all p ys (λ j l. all_member p xs e (get_or ys j 0) (sym (same (get_or ys j 0)) ∙ member_of ys j l))

-- two lists with the same values, in whatever order and however often each
module _ (xs ys : List ℕ) (same : (h : ℕ) → member h xs ≡ member h ys) where
  all_same : (p : ℕ → Bool) → all p xs ≡ all p ys
  all_same p = go (all p xs) (all p ys) (all_fewer p xs ys (λ h. sym (same h))) (all_fewer p ys xs same)
    where
      go : (a b : Bool) → (a ≡ true → b ≡ true) → (b ≡ true → a ≡ true) → a ≡ b
      go true b to from = sym (to refl)
      go false true to from = from refl
      go false false to from = refl

  least_same : least_layers xs ≡ least_layers ys
  unfolding least_layers serves_all
  least_same = ap (λ p. first_from p 1 most_layers) (fun_ext (λ m. all_same (serves m)))

  refusal_same : (n k : ℕ) → layers_refusal n k xs ≡ layers_refusal n k ys
  unfolding layers_refusal losses_bad no_layers
  refusal_same n k = rw (all_same (within 1 (n - k - 1)), least_same) refl

  -- give the same number and the same layers
  pub values_decide : (n k : ℕ) (a b : Result ℕ Refusal) → Chooses n k xs a → Chooses n k ys b → (answer_number a ≡ answer_number b) × (answer_values a ≡ answer_values b)
  values_decide n k a b p q = (
    p.number ∙ refusal_same n k ∙ sym q.number,
    p.returned ∙ rw (refusal_same n k, least_same) refl ∙ sym q.returned,
  )
