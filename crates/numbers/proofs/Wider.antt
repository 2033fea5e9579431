-- What a reader of some groups reads, a reader of more groups reads alike.
use mathlib.Core.Path.{◌≡◌, refl, sym, ap, ◌∙◌}
use mathlib.Core.Logic.{◌⊎◌, inl, inr}
use mathlib.Core.List.{List, [], ◌∷◌}
use Prim.Native.Nat.{ℕ, zero, suc, ◌-◌, ◌≤◌, ◌<◌}
use native.Mathlib.Omega.{arith}
use Rattle.lists.proofs.Tests.{below_or_not}
use Rattle.numbers.specs.Numbers.{group_values, Found, value, malformed, grouped, read_number, Numbers, values, broken, and_then, then_numbers, numbers_by}
use Rattle.numbers.proofs.Numbers.{read_one, read_more, never}

pub number_wider : (groups more : ℕ) → groups ≤ more → (bytes : List ℕ) (v : ℕ) (rest : List ℕ) → read_number groups bytes ≡ value v rest → read_number more bytes ≡ value v rest
unfolding read_number grouped
number_wider zero more h bytes v rest e = absurd (never e)
number_wider (suc groups) zero h bytes v rest e = absurd (omega arith)
number_wider (suc groups) (suc more) h [] v rest e = absurd (never e)
number_wider (suc groups) (suc more) h (b ∷ bs) v rest e = go (below_or_not b group_values) (number_wider groups more (omega arith) bs)
  where
    go : (b < group_values) ⊎ (group_values ≤ b) → ((v : ℕ) (rest : List ℕ) → read_number groups bs ≡ value v rest → read_number more bs ≡ value v rest)
        → read_number (suc more) (b ∷ bs) ≡ value v rest
    go (inl l) ih = read_one more b bs l ∙ sym (read_one groups b bs l) ∙ e
    go (inr l) ih = read_more more b bs l ∙ next (read_number groups bs) refl (sym (read_more groups b bs l) ∙ e)
      where
        next : (f : Found) → read_number groups bs ≡ f → grouped (b - group_values) f ≡ value v rest → grouped (b - group_values) (read_number more bs) ≡ value v rest
        next malformed d q = absurd (never q)
        next (value high r) d q = ap (grouped (b - group_values)) (ih high r d) ∙ q

module _ (groups more : ℕ) (h : groups ≤ more) where
  pub numbers_wider : (count : ℕ) (bytes vs rest : List ℕ) → numbers_by groups count bytes ≡ values vs rest → numbers_by more count bytes ≡ values vs rest
  unfolding numbers_by then_numbers and_then
  numbers_wider zero bytes vs rest e = e
  numbers_wider (suc count) bytes vs rest e = go (read_number groups bytes) refl e (numbers_wider count)
    where
      no : {us t : List ℕ} → broken ≡ values us t → ⊥
      no q = let z : ◌≡◌ {A = ℕ} 0 1 = cc in omega arith

      go : (f : Found) → read_number groups bytes ≡ f → then_numbers f (numbers_by groups count) ≡ values vs rest
          → ((bytes vs rest : List ℕ) → numbers_by groups count bytes ≡ values vs rest → numbers_by more count bytes ≡ values vs rest)
          → then_numbers (read_number more bytes) (numbers_by more count) ≡ values vs rest
      go malformed d q ih = absurd (no q)
      go (value v r) d q ih = ap (λ f. then_numbers f (numbers_by more count)) (number_wider groups more h bytes v r d) ∙ next (numbers_by groups count r) refl q
        where
          next : (n : Numbers) → numbers_by groups count r ≡ n → and_then v n ≡ values vs rest → and_then v (numbers_by more count r) ≡ values vs rest
          next broken d' q = absurd (no q)
          next (values us t) d' q = ap (and_then v) (ih r us t d') ∙ q
