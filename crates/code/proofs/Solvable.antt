-- Document 02 §11: in one set of equations of a good code all points differ, and no pivot of `solve` is 0. Both theorems go by `more_good`.
use mathlib.Core.Path.{◌≡◌}
use mathlib.Core.Bool.{false}
use mathlib.Core.List.{List}
use Prim.Native.Nat.{ℕ, ◌<◌}
use lib.ListN.{length, get_or}
use Rattle.lists.proofs.Members.{rising_below, rising_more}
use Rattle.column.specs.Solving.{Solvable}
use Rattle.column.proofs.Solvable.{solvable}
use Rattle.shape.specs.declared.Shape.{Shape}
use Rattle.shape.specs.Shape.{most_nodes}
use Rattle.shape.specs.Refusals.{shape_bad, nodes_bad, repair_bad}
use Rattle.shape.proofs.Accepted.{shape_accepted, nodes_accepted, repair_accepted}
use Rattle.code.specs.Code.{Code, points, more_points, GoodCode}
use Rattle.code.proofs.NodePoints.{good_fewer, points_length, points_good, more_length, more_good}

module _ (c : Code) (code : GoodCode c most_nodes) (s : Shape) (shape : shape_bad s ≡ false) (a : ℕ) where
  good : GoodCode c s.n
  good = good_fewer c most_nodes s.n (shape_accepted s shape).n_high code

  -- the columns of writing, restoring and opening: any k of the n nodes are listed
  pub column_solvable : (list : List ℕ) → nodes_bad s.n s.k list ≡ false → Solvable c.modulus (points c s.n a) list
  column_solvable list nodes =
      solvable c.modulus code.prime (points c s.n a) (points_good c s.n good a) list
      (rw (points_length c s.n a) (nodes_accepted s.n s.k list nodes).1)

  -- the n + 1 entries of the first step of the dead node of rank u: the helpers are listed
  pub first_step_solvable : (dead helpers : List ℕ) → repair_bad s dead helpers ≡ false → (u : ℕ) → u < length dead
      → Solvable c.modulus (more_points c s.n a (get_or dead u 0)) helpers
  first_step_solvable dead helpers lists u h =
      let w = repair_accepted s dead helpers lists in
      solvable c.modulus code.prime (more_points c s.n a (get_or dead u 0))
      (more_good c s.n good a (get_or dead u 0) (rising_below s.n dead w.dead_rising u h)) helpers
      (rw (more_length c s.n a (get_or dead u 0)) (rising_more s.n helpers w.helpers_rising))
