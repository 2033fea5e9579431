-- The rank that turns the class of rank v: the other places of its sums are first places of rank v's.
use mathlib.Core.Path.{◌≡◌, sym, ap, ◌∙◌}
use mathlib.Core.Logic.{◌≢◌}
use mathlib.Core.List.{List}
use Prim.Native.Nat.{ℕ, ◌+◌, ◌*◌}
use native.Mathlib.Omega.{arith}
use lib.Bits.{bit_xor, xor_zero_l}
use lib.ListN.{get_or}
use Rattle.lists.specs.Digits.{flip}
use Rattle.shape.specs.declared.Shape.{Shape}
use Rattle.classes.specs.Classes.{node, rank_class, turning_rank, place_of, Sum, sum_at, sum_place}
use Rattle.steps.specs.Storing.{sum_symbol, OwnLow, LowAt}
use Rattle.classes.proofs.Dead.{Dead, flip_node_lt}
use Rattle.classes.proofs.Turns.{class_turned}
use Rattle.classes.proofs.Ranks.{Rank, rank_class_le, turning_rank_lem}
use Rattle.steps.proofs.Storing.{sum_first, sum_other}

module _ {s : Shape} {dead : List ℕ} (D : Dead s dead) (v : ℕ) (z : rank_class dead v ≢ 0) where
  abbrev t : ℕ
  t = turning_rank dead (rank_class dead v)

  pub turner : Rank dead (turning_rank dead (rank_class dead v)) 0 0
  turner = turning_rank_lem dead (rank_class dead v) (omega arith) (rank_class_le dead v)

  pub turned_place : (b a : ℕ) → sum_place s dead t 1 b a ≡ place_of s dead 0 b (flip (node dead t) a)
  turned_place b a = sum_other s dead t b a ∙ ap (λ y. place_of s dead y b (flip (node dead t) a)) turner.partnered

  pub turned_sum : (b a : ℕ) → Sum s dead t b a → Sum s dead v b (flip (node dead t) a)
  turned_sum b a Q = record {
    batched = Q.batched;
    below = flip_node_lt D t a turner.below Q.below;
    inside =
        class_turned D (rank_class dead v) a (omega arith) (rank_class_le dead v) ∙ ap (λ x. bit_xor x (rank_class dead v)) (Q.inside ∙ turner.class)
        ∙ xor_zero_l (rank_class dead v);
  }

  pub begin_low : (q : ℕ) (S : List ℕ) → OwnLow q s dead v S → LowAt q s dead (turning_rank dead (rank_class dead v)) 1 S
  unfolding sum_symbol
  begin_low q S O = record {
    each = λ b a Q.
        let a' = flip (node dead t) a in
        rw (ap (λ x. get_or S x 0) (turned_place b a ∙ sym (sum_first s dead v b a')) ∙ O.paired.one b a' (turned_sum b a Q)) (O.low.at (sum_at s dead v b a' * 2 + 0));
  }
