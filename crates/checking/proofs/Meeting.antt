-- Where the nodes hold already what would be filled in, all equations are met.
use mathlib.Core.Path.{◌≡◌, refl, sym, ap, ◌∙◌}
use mathlib.Core.Bool.{Bool, true, false}
use mathlib.Core.List.{List}
use Prim.Native.Nat.{ℕ, ◌+◌, ◌-◌, ◌*◌, ◌%◌, ◌^◌, ◌<◌}
use native.Mathlib.Omega.{arith}
use lib.Arith.{digits_lt}
use lib.ListN.{get_or}
use Rattle.lists.specs.Lists.{member, position, range, rising}
use Rattle.lists.proofs.Tables.{is_tabulate, range_length}
use Rattle.lists.proofs.Members.{at_position, rising_below, range_rising}
use Rattle.column.specs.Column.{completed, Completion}
use Rattle.column.proofs.Column.{completed_is}
use Rattle.shape.specs.declared.Shape.{Shape}
use Rattle.shape.specs.Shape.{size}
use Rattle.shape.specs.Refusals.{shape_bad}
use Rattle.shape.proofs.Accepted.{passed}
use Rattle.code.specs.Code.{narrow, points, GoodCode}
use Rattle.code.specs.Archive.{symbol, column, place_points, equation}
use Rattle.code.specs.Refusals.{check_refusal}
use Rattle.code.proofs.NodePoints.{points_length, points_good}
use Rattle.code.proofs.Accepted.{Checkable, check_accepted, narrow_accepted}
use Rattle.filling.specs.Filling.{listed_at, Fillable}
use Rattle.comparing.specs.Comparing.{HeldTo}
use Rattle.checking.specs.Steps.{MetTo}

module _ (s : Shape) (nodes : List ℕ) (accepted : check_refusal narrow s nodes ≡ 0) where
  abbrev list : List ℕ
  list = range 0 s.k

  pub check_shape : shape_bad s ≡ false
  unfolding check_refusal
  check_shape = (passed (shape_bad s) 0 _ accepted).0

  able : Checkable s nodes
  able = check_accepted s nodes accepted

  good : GoodCode narrow s.n
  good = narrow_accepted s check_shape

  -- nodes 0 to k-1 are listed
  up : rising 0 s.n (range 0 s.k) ≡ true
  up = range_rising s.n s.k (omega (arith, able.shaped.k_high))

  pub checkable_fillable : Fillable s.n (size s) (range 0 s.k) nodes
  unfolding listed_at
  checkable_fillable = record {
    high = able.shaped.n_high;
    up = up;
    long = able.long;
    small = λ j p h l. able.small _ (rw able.long (digits_lt (rising_below s.n list up j h) l));
  }

  -- what would be filled in is there already: then all equations are met
  module _ (to : ℕ) (w : HeldTo s (range 0 s.k) nodes to) (p : ℕ) (within : p < size s) (low : p % 2 ^ s.n < to) where
    abbrev full : List ℕ
    full = completed narrow.modulus (points narrow s.n (p % 2 ^ s.n)) (range 0 s.k) (listed_at (size s) (range 0 s.k) nodes p)

    is : Completion narrow.modulus (points narrow s.n (p % 2 ^ s.n)) list (listed_at (size s) list nodes p) full
    is =
        completed_is narrow.modulus good.prime (points narrow s.n (p % 2 ^ s.n)) (points_good narrow s.n good (p % 2 ^ s.n)) list
        (rw (points_length narrow s.n (p % 2 ^ s.n)) up) (listed_at (size s) list nodes p) (λ j h. checkable_fillable.small j p h within)

    held : (i : ℕ) → i < s.n → (b : Bool) → member i list ≡ b → get_or nodes (i * size s + p) 0 ≡ get_or full i 0
    unfolding listed_at
    held i h true e =
        let z = at_position list i e in
        ap (λ k. get_or nodes (k * size s + p) 0) (sym z.1) ∙ sym (is.listed (position i list) z.0) ∙ ap (λ k. get_or full k 0) z.1
    held i h false e = w.held.there i p h e within low

    whole : column s nodes p ≡ full
    unfolding column symbol
    whole =
        sym
        (is_tabulate full s.n _ 0 (is.long ∙ points_length narrow s.n (p % 2 ^ s.n)) (λ i h. sym (held i h (member i list) refl)))

    met : (t : ℕ) → t < s.n - s.k → equation narrow s nodes p t ≡ 0
    unfolding equation place_points
    met t h = rw whole (is.met t (rw (points_length narrow s.n (p % 2 ^ s.n), range_length 0 s.k) h))

  pub held_met : (to : ℕ) → HeldTo s (range 0 s.k) nodes to → MetTo s nodes to
  held_met to w = record { high = w.high; met = λ p t within low h. met to w p within low t h }

pub met_none : (s : Shape) (nodes : List ℕ) → MetTo s nodes 0
met_none s nodes = record { high = omega arith; met = λ place t h l. absurd (omega arith) }
