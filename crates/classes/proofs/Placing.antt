-- Where a rank stands among the others.
use mathlib.Core.Path.{◌≡◌, ◌∙◌}
use mathlib.Core.Logic.{◌≢◌, ◌⊎◌, inl, inr}
use mathlib.Core.Bool.{cond}
use Prim.Native.Nat.{ℕ, ◌+◌, ◌-◌, ◌≤◌, ◌<◌}
use native.Mathlib.Omega.{arith}
use lib.Dec.{ltb}
use Rattle.lists.proofs.Tests.{below_or_not, cond_below, cond_beyond}
use Rattle.classes.specs.Steps.{other_rank, place}

-- rank v stands at its place among the ranks but u
module _ (h u v : ℕ) (l : u < h) (m : v < h) (d : v ≢ u) where
  pub place_below : place u v < h - 1
  unfolding place
  place_below = go (below_or_not v u)
    where
      go : (v < u) ⊎ (u ≤ v) → cond (ltb v u) v (v - 1) < h - 1
      go (inl b) = rw (cond_below v (v - 1) v u b) (omega arith)
      go (inr b) = rw (cond_beyond v (v - 1) v u b) (omega arith)

  pub other_place : other_rank u (place u v) ≡ v
  unfolding other_rank place
  other_place = go (below_or_not v u)
    where
      go : (v < u) ⊎ (u ≤ v) → cond (ltb (cond (ltb v u) v (v - 1)) u) (cond (ltb v u) v (v - 1)) (cond (ltb v u) v (v - 1) + 1) ≡ v
      go (inl b) = rw (cond_below v (v - 1) v u b) (cond_below v (v + 1) v u b)
      go (inr b) = rw (cond_beyond v (v - 1) v u b) (cond_beyond (v - 1) (v - 1 + 1) (v - 1) u (omega arith) ∙ omega arith)

-- the j-th of the ranks but u
pub other_is : (h u j : ℕ) → u < h → j < h - 1 → (other_rank u j < h) × (other_rank u j ≢ u) × (place u (other_rank u j) ≡ j)
unfolding other_rank place
other_is h u j l k = go (below_or_not j u)
  where
    go : (j < u) ⊎ (u ≤ j) → (other_rank u j < h) × (other_rank u j ≢ u) × (place u (other_rank u j) ≡ j)
    go (inl b) = let e = cond_below j (j + 1) j u b in rw e (omega arith, λ z. omega arith, cond_below j (j - 1) j u b)
    go (inr b) = let e = cond_beyond j (j + 1) j u b in rw e (omega arith, λ z. omega arith, cond_beyond (j + 1) (j + 1 - 1) (j + 1) u (omega arith) ∙ omega arith)
