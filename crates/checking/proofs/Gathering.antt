-- What is gathered at a place: the nodes' column there, and a parity equation of it.
use mathlib.Core.Path.{◌≡◌, sym, ap, ap₂, ◌∙◌}
use mathlib.Core.List.{List}
use Prim.Native.Nat.{ℕ, ◌+◌, ◌*◌, ◌^◌, ◌≤◌, ◌<◌}
use native.Mathlib.Omega.{arith}
use lib.Arith.{digits_mod}
use lib.ListN.{take}
use lib.Seq.{get_or-take, length-take-le}
use Rattle.lists.proofs.Tables.{is_tabulate}
use Rattle.column.specs.Column.{parity}
use Rattle.shape.specs.declared.Shape.{Shape}
use Rattle.shape.specs.Shape.{most_nodes, size}
use Rattle.code.specs.Code.{Code, points}
use Rattle.code.specs.Archive.{symbol, column, place_points, equation}
use Rattle.code.specs.Steps.{Gathered}

module _ (s : Shape) (few : s.n ≤ most_nodes) (symbols out : List ℕ) (place : ℕ) (g : Gathered s.n (size s) place symbols out) where
  -- what all n nodes hold
  pub gathered_column : take s.n out ≡ column s symbols place
  unfolding column symbol
  gathered_column =
      is_tabulate (take s.n out) s.n _ 0 (length-take-le s.n out (omega (arith, g.long))) (λ i h. get_or-take s.n out i 0 h ∙ g.each i h)

  -- equation t at (layer, a)
  pub gathered_equation : (c : Code) (ps : List ℕ) (layer a t : ℕ) → place ≡ layer * 2 ^ s.n + a → a < 2 ^ s.n → take s.n ps ≡ points c s.n a
      → parity c.modulus (take s.n ps) (take s.n out) t ≡ equation c s symbols place t
  unfolding equation place_points
  gathered_equation c ps layer a t e l p =
      ap₂ (λ x y. parity c.modulus x y t) (p ∙ ap (points c s.n) (sym (rw e (digits_mod layer l)))) gathered_column
