-- Which places are done, where runs are passed one after the other: those of a run at each layer of `size` places, then those of the next run.
use mathlib.Core.Path.{◌≡◌, sym, ap, ◌∙◌}
use mathlib.Core.Logic.{◌⊎◌, inl, inr}
use Prim.Native.Nat.{ℕ, ◌+◌, ◌-◌, ◌*◌, ◌/◌, ◌%◌, ◌<◌, ◌≤◌}
use native.Mathlib.Nat.{div-add-mod'}
use native.Mathlib.Decide.{ℕ_discrete}
use native.Mathlib.Omega.{arith}
use lib.Arith.{digits_div, digits_mod}
use Rattle.lists.proofs.Tests.{below_or_not}
use Rattle.lists.proofs.Places.{place_of}
use Rattle.filling.specs.Filling.{InRun, InLayers, Below}

module _ (size a run : ℕ) (h : a + run ≤ size) where
  -- the places of a layer
  in_layer : (layer p : ℕ) → InRun (layer * size + a) run p → (p / size ≡ layer) × (a ≤ p % size) × (p % size < a + run)
  in_layer layer p d =
      let t = p - layer * size in
      let e : p ≡ layer * size + t = omega arith in
      let b : t < size = omega arith in
      let z : p / size ≡ layer = ap (λ k. k / size) e ∙ digits_div layer b in
      let m : p % size ≡ t = ap (λ k. k % size) e ∙ digits_mod layer b in
      (z, omega arith, omega arith)

  of_layer : (layer p : ℕ) → p / size ≡ layer → a ≤ p % size → p % size < a + run → InRun (layer * size + a) run p
  of_layer layer p e l g = let z : layer * size + p % size ≡ p = ap (λ k. k * size + p % size) (sym e) ∙ div-add-mod' p (size) in (omega arith, omega arith)

  -- those of one layer more are its own, and those before
  pub layers_split : (layer p : ℕ) → InLayers size a run (layer + 1) p → InRun (layer * size + a) run p ⊎ (InLayers size a run layer p × (InRun (layer * size + a) run p → ⊥))
  layers_split layer p d = go (ℕ_discrete (p / size) layer)
    where
      go : Dec (p / size ≡ layer) → InRun (layer * size + a) run p ⊎ (InLayers size a run layer p × (InRun (layer * size + a) run p → ⊥))
      go (yes e) = inl (of_layer layer p e d.0 d.1)
      go (no e) = inr ((d.0, d.1, omega (arith, d.2, e)), λ z. e (in_layer layer p z).0)

  pub layers_before : (layer p : ℕ) → InLayers size a run layer p → InLayers size a run (layer + 1) p
  layers_before layer p d = (d.0, d.1, omega (arith, d.2))

  pub layers_here : (layer p : ℕ) → InRun (layer * size + a) run p → InLayers size a run (layer + 1) p
  layers_here layer p d = let z = in_layer layer p d in (z.1, z.2, omega (arith, z.0))

-- the places of one run more of a are its own, and those before
pub runs_split : (size layers a run p : ℕ) → p < layers * size → Below size (a + run) p
    → InLayers size a run layers p ⊎ (Below size a p × (InLayers size a run layers p → ⊥))
runs_split size layers a run p l d = go (below_or_not (p % size) a)
  where
    go : (p % size < a) ⊎ (a ≤ p % size) → InLayers size a run layers p ⊎ (Below size a p × (InLayers size a run layers p → ⊥))
    go (inl g) = inr (g, λ z. omega (arith, z.0))
    go (inr g) = inl (g, d, (place_of layers size p l).row)
