-- Where all points in one set of equations differ, no pivot is 0 (document 02 §11).
use mathlib.Core.Path.{◌≡◌, refl}
use mathlib.Core.Bool.{true}
use mathlib.Core.List.{List}
use Prim.Native.Nat.{ℕ, zero, suc, ◌<◌}
use native.Mathlib.Nat.{mod-lt}
use native.Mathlib.Omega.{arith}
use lib.ListN.{length}
use Rattle.lists.specs.Lists.{element, others, rising}
use Rattle.lists.proofs.Others.{others_rise}
use Rattle.field.specs.Residues.{Prime}
use Rattle.inverting.specs.Inverses.{Pivots}
use Rattle.column.specs.Column.{Points, unknowns}
use Rattle.column.specs.Solving.{differences, pivot_at, Solvable}
use Rattle.column.proofs.Solved.{points_picked, pivot_nonzero}

pub differences_small : (q x i : ℕ) (points : ℕ → ℕ) → 1 < q → differences q points i x < q
unfolding differences
differences_small q x zero points h = h
differences_small q x (suc i) points h = mod-lt _ (omega arith)

module _ (q : ℕ) (prime : Prime q) where
  -- the pivots of points that differ
  pub pivots_good : (xs : List ℕ) → Points q xs → Pivots q (length xs) (pivot_at q xs)
  pivots_good xs apart = record {
    prime = prime;
    small = λ i h. differences_small q (element xs i) i (element xs) prime.big;
    nonzero = pivot_nonzero q prime xs apart;
  }

  pub solvable : (points : List ℕ) → Points q points → (list : List ℕ) → rising 0 (length points) list ≡ true → Solvable q points list
  solvable points apart list up = record {
    differ = apart;
    pivots = pivots_good (unknowns points list) some;
    solved = λ powers right values v w. w.solved (unknowns points list) refl prime some v;
  }
    where
      some : Points q (unknowns points list)
      some = points_picked q points apart 0 (others (length points) list) (others_rise (length points) list up)
