-- What one solve gives: the change of each node's symbol at a place.
use mathlib.Core.Path.{◌≡◌, sym, ap, ◌∙◌}
use mathlib.Core.Bool.{false}
use mathlib.Core.List.{List, ◌++◌}
use Prim.Native.Nat.{ℕ, ◌*◌, ◌%◌, ◌^◌, ◌<◌}
use native.Mathlib.Omega.{arith}
use lib.ListN.{length, get_or, take, drop, replicate, length-replicate, get_or-append}
use lib.Seq.{length-take-le, length_front, get_or-take}
use Rattle.lists.specs.Lists.{range, element}
use Rattle.lists.proofs.Tables.{tabulate_length, range_length}
use Rattle.lists.proofs.Members.{range_rising}
use Rattle.column.specs.Column.{completed}
use Rattle.column.specs.Solving.{Known, Completes}
use Rattle.shape.specs.declared.Shape.{Shape}
use Rattle.shape.specs.Shape.{most_nodes}
use Rattle.shape.specs.Refusals.{shape_bad}
use Rattle.shape.proofs.Accepted.{Shaped, shape_accepted}
use Rattle.code.specs.Code.{GoodCode, narrow, points}
use Rattle.code.specs.Archive.{place_points}
use Rattle.code.proofs.NodePoints.{points_length, points_good}
use Rattle.code.proofs.Accepted.{narrow_accepted}
use Rattle.multipliers.specs.Multipliers.{unit}
use Rattle.correcting.specs.Correcting.{change_factor}
use Rattle.correcting.specs.Steps.{Changes}
use Rattle.correcting.proofs.Factors.{entry_alone}

module _ (s : Shape) (shape : shape_bad s ≡ false) (node place d : ℕ) (within : node < s.k) (low : d < narrow.modulus) (ps all values : List ℕ)
    (ps_are : take s.n ps ≡ points narrow s.n (place % 2 ^ s.n)) (all_are : take s.k all ≡ range 0 s.k) (long : length values ≡ most_nodes)
    (values_are : (j : ℕ) → j < most_nodes → element values j ≡ d * unit node j) where
  abbrev q : ℕ
  q = narrow.modulus

  shaped : Shaped s
  shaped = shape_accepted s shape

  good : GoodCode narrow s.n
  good = narrow_accepted s shape

  ps_long : length (take s.n ps) ≡ s.n
  ps_long = ap length ps_are ∙ points_length narrow s.n (place % 2 ^ s.n)

  value : (j : ℕ) → j < s.k → element (take s.k values) j ≡ d * unit node j
  value j h = get_or-take s.k values j 0 h ∙ values_are j (omega (arith, shaped.k_high, shaped.n_high))

  pub solve_known : Known narrow.modulus (take s.n ps) (take s.k all) (take s.k values)
  solve_known = record {
    prime = good.prime;
    few = omega (arith, ps_long, shaped.n_high);
    apart = rw ps_are (points_good narrow s.n good (place % 2 ^ s.n));
    up = rw (ps_long, all_are) (range_rising s.n s.k (omega (arith, shaped.k_high)));
    each =
        length-take-le s.k values (omega (arith, long, shaped.k_high, shaped.n_high)) ∙ sym (ap length all_are ∙ range_length 0 s.k);
  }

  module _ (column : List ℕ) (w : Completes narrow.modulus (take s.n ps) (take s.k all) (take s.k values) column) where
    column_long : length column ≡ s.n
    unfolding completed
    column_long = ap length w.whole ∙ tabulate_length _ _ ∙ ps_long

    held : (i : ℕ) → i < s.n → element column i ≡ (d * change_factor narrow s node place i) % narrow.modulus
    unfolding place_points
    held i h =
        ap (λ u. get_or u i 0) w.whole
        ∙ ap (λ u. get_or (completed q u (take s.k all) (element (take s.k values))) i 0) ps_are
        ∙ ap (λ u. get_or (completed q (points narrow s.n (place % 2 ^ s.n)) u (element (take s.k values))) i 0) all_are
        ∙ entry_alone narrow s good (omega (arith, shaped.k_high)) node place within i h (element (take s.k values)) d low value

    pub solved_changes : Changes s node place d (column ++ drop s.n (replicate most_nodes 0))
    solved_changes = record {
      long =
          length_front (replicate most_nodes 0) column s.n
          (column_long ∙ sym (length-take-le s.n (replicate most_nodes 0) (omega (arith, length-replicate {A = ℕ} most_nodes 0, shaped.n_high))))
          ∙ length-replicate {A = ℕ} most_nodes 0;
      each = λ i h. get_or-append column _ 0 i (omega (arith, column_long)) ∙ held i h;
    }
