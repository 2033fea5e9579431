-- The listed nodes put in their places and the others filled in: that is what is to be restored.
use mathlib.Core.Path.{◌≡◌, refl, sym, ap, ◌∙◌}
use mathlib.Core.Bool.{Bool, true, false}
use mathlib.Core.Logic.{◌⊎◌, inl, inr}
use mathlib.Core.List.{List}
use Prim.Native.Nat.{ℕ, ◌+◌, ◌*◌, ◌/◌, ◌%◌, ◌^◌, ◌<◌, ◌≤◌}
use native.Mathlib.Decide.{ℕ_discrete}
use native.Mathlib.Omega.{arith}
use lib.Arith.{digits_lt}
use lib.ListN.{length, get_or}
use Rattle.lists.specs.Lists.{tabulate, member, position, rising}
use Rattle.lists.proofs.Members.{at_position, rising_distinct}
use Rattle.lists.proofs.Rows.{Columns, columns_end}
use Rattle.rows.specs.Rows.{Stored, copied}
use Rattle.column.specs.Column.{completed, Completion}
use Rattle.column.proofs.Column.{completed_ext, completed_is}
use Rattle.shape.specs.declared.Shape.{Shape}
use Rattle.shape.specs.Shape.{most_nodes, size}
use Rattle.code.specs.Code.{narrow, points}
use Rattle.code.specs.Archive.{symbol, place_points, restored_column, restored_symbol, restored}
use Rattle.code.proofs.NodePoints.{points_length, points_good}
use Rattle.code.proofs.Restored.{Given}
use Rattle.filling.specs.Filling.{listed_at, Fillable, Filled, Everywhere}
use Rattle.filling.proofs.Filling.{apart}
use Rattle.restoring.specs.Steps.{ListedPlaced}

-- n nodes that hold the restored columns at all places are what is restored
restored_end : (s : Shape) (list symbols nodes : List ℕ) → length nodes ≡ s.n * size s → Columns s.n (size s) (size s) (restored_column narrow s list symbols) nodes
    → nodes ≡ restored narrow s list symbols
unfolding restored restored_symbol
restored_end s list symbols nodes e to =
    columns_end s.n (size s) (restored_column narrow s list symbols) nodes (omega arith) to
    ∙ ap (λ n. tabulate n (λ e. get_or (restored_column narrow s list symbols (e % size s)) (e / size s) 0)) e

module _ (n each : ℕ) (list symbols : List ℕ) (up : rising 0 n list ≡ true) where
  pub listed_none : (before : List ℕ) → ListedPlaced each list symbols 0 before before
  listed_none before = record { long = refl; there = λ j p h. absurd (omega arith) }

  pub listed_more : (m : ℕ) (before now after : List ℕ) → m < length list → ListedPlaced each list symbols m before now
      → Stored (get_or list m 0 * each) each (copied symbols (m * each)) now after → ListedPlaced each list symbols (m + 1) before after
  unfolding copied
  listed_more m before now after h w put = record { long = put.long ∙ w.long; there = λ j p l g. go j p l g (ℕ_discrete j m) }
    where
      go : (j p : ℕ) → j < m + 1 → p < each → Dec (j ≡ m) → get_or after (get_or list j 0 * each + p) 0 ≡ get_or symbols (j * each + p) 0
      go j p l g (yes e) = rw e (put.there p g)
      go j p l g (no e) = kept (apart each (get_or list m 0) (get_or list j 0) p 0 each (λ d. e (rising_distinct n list up j m (omega arith) h d)) g (omega arith)) ∙ w.there j p (omega arith) g
        where
          kept : (get_or list j 0 * each + p < get_or list m 0 * each + 0) ⊎ (get_or list m 0 * each + 0 + each ≤ get_or list j 0 * each + p)
              → get_or after (get_or list j 0 * each + p) 0 ≡ get_or now (get_or list j 0 * each + p) 0
          kept (inl k) = put.ahead _ (omega arith)
          kept (inr k) = put.behind _ (omega arith)

module _ (s : Shape) (list symbols : List ℕ) (given : Given narrow s list symbols) (high : s.n ≤ most_nodes) (whole : length symbols ≡ s.k * size s) (nodes : List ℕ)
    (room : length nodes ≡ s.n * size s) (there : (j p : ℕ) → j < s.k → p < size s → get_or nodes (get_or list j 0 * size s + p) 0 ≡ get_or symbols (j * size s + p) 0) where
  small : (j p : ℕ) → j < s.k → p < size s → get_or symbols (j * size s + p) 0 < narrow.modulus
  small j p h l = given.small (j * size s + p) (rw whole (digits_lt h l))

  pub placed_fillable : Fillable s.n (size s) list nodes
  unfolding listed_at
  placed_fillable = record {
    high = high;
    up = given.nodes;
    long = room;
    small = λ j p h l. let g : j < s.k = omega (arith, given.count) in rw (there j p g l) (small j p g l);
  }

  same : (p j : ℕ) → p < size s → j < length list → listed_at (size s) list nodes p j ≡ symbol s symbols j p
  unfolding listed_at symbol
  same p j l h = there j p (omega (arith, given.count)) l

  column : (p : ℕ) → p < size s → completed narrow.modulus (points narrow s.n (p % 2 ^ s.n)) list (listed_at (size s) list nodes p) ≡ restored_column narrow s list symbols p
  unfolding restored_column place_points
  column p l = completed_ext narrow.modulus (points narrow s.n (p % 2 ^ s.n)) list _ _ (λ j h. same p j l h)

  is : (p : ℕ) → p < size s
      → Completion narrow.modulus (points narrow s.n (p % 2 ^ s.n)) list (listed_at (size s) list nodes p)
      (completed narrow.modulus (points narrow s.n (p % 2 ^ s.n)) list (listed_at (size s) list nodes p))
  is p l =
      completed_is narrow.modulus given.code.prime (points narrow s.n (p % 2 ^ s.n)) (points_good narrow s.n given.code (p % 2 ^ s.n)) list
      (rw (points_length narrow s.n (p % 2 ^ s.n)) given.nodes) (listed_at (size s) list nodes p) (λ j h. placed_fillable.small j p h l)

  held : (i p : ℕ) → member i list ≡ true → p < size s
      → get_or nodes (i * size s + p) 0 ≡ get_or (completed narrow.modulus (points narrow s.n (p % 2 ^ s.n)) list (listed_at (size s) list nodes p)) i 0
  unfolding listed_at
  held i p e l =
      let z = at_position list i e in
      ap (λ k. get_or nodes (k * size s + p) 0) (sym z.1) ∙ sym ((is p l).listed (position i list) z.0)
      ∙ ap (λ k. get_or (completed narrow.modulus (points narrow s.n (p % 2 ^ s.n)) list (listed_at (size s) list nodes p)) k 0) z.1

  pub filled_restored : (after : List ℕ) → Filled s.n (size s) list Everywhere nodes after → after ≡ restored narrow s list symbols
  filled_restored after w = restored_end s list symbols after (w.long ∙ room) (record { each = λ i p h l g. each i p h l (member i list) refl })
    where
      each : (i p : ℕ) → i < s.n → p < size s → (b : Bool) → member i list ≡ b → get_or after (i * size s + p) 0 ≡ get_or (restored_column narrow s list symbols p) i 0
      each i p h l true e = w.kept i p e l ∙ held i p e l ∙ ap (λ c. get_or c i 0) (column p l)
      each i p h l false e = w.there i p h e l tt ∙ ap (λ c. get_or c i 0) (column p l)
