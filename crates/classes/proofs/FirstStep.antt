-- The first step where the helpers' messages are a codeword's: it gives the node's own symbols and every node's sums.
use mathlib.Core.Path.{◌≡◌, refl, sym, ap, ap₂, ◌∙◌}
use mathlib.Core.Logic.{◌≢◌}
use mathlib.Core.List.{List}
use Prim.Native.Nat.{ℕ, suc, ◌+◌, ◌*◌, ◌%◌, ◌<◌}
use native.Mathlib.Omega.{arith}
use lib.ListN.{length, get_or, length-map}
use Rattle.lists.specs.Lists.{piece}
use Rattle.lists.proofs.Tables.{tabulate_length, tabulate_at, map_at}
use Rattle.lists.proofs.Members.{rising_below, rising_more}
use Rattle.lists.proofs.Flats.{piece_at, flat_at}
use Rattle.column.proofs.Column.{completed_only}
use Rattle.shape.specs.declared.Shape.{Shape}
use Rattle.shape.specs.Shape.{size}
use Rattle.code.specs.Code.{Code, more_points}
use Rattle.code.specs.Archive.{symbol, Codeword}
use Rattle.code.proofs.NodePoints.{more_length, more_good}
use Rattle.classes.specs.Classes.{node, no_spot, spots, spot_at, message_size}
use Rattle.classes.specs.Steps.{added, helper_message, solved, own_pair, own_pairs, exchange_at, exchange}
use Rattle.classes.proofs.Dead.{Dead, node_below, Accepted, dead_of}
use Rattle.classes.proofs.Counts.{spots_size}
use Rattle.classes.proofs.Adding.{Joined, joined, sum_of, sum_column, sums_length, sums_sum, sums_one, sums_other, sums_below, sums_met}

pub message_length : {s : Shape} {dead : List ℕ} → Dead s dead → (c : Code) (u : ℕ) (symbols : List ℕ)
    → length (helper_message c s dead u symbols) ≡ message_size s dead
unfolding helper_message
message_length {s} {dead} D c u symbols = length-map (spots s dead u) (added c symbols) ∙ spots_size D u

pub exchange_length : (c : Code) (s : Shape) (dead helpers : List ℕ) (u : ℕ) (messages : List ℕ) (i : ℕ)
    → length (exchange c s dead helpers u messages i) ≡ message_size s dead
unfolding exchange
exchange_length c s dead helpers u messages i = tabulate_length (message_size s dead) (exchange_at c s dead helpers u messages i)

-- the own pairs by index: those of sum x stand at x * 2
pub pairs_at : (c : Code) (s : Shape) (dead helpers : List ℕ) (u : ℕ) (messages : List ℕ) (x which : ℕ) → x < message_size s dead → which < 2
    → get_or (own_pairs c s dead helpers u messages) (x * 2 + which) 0 ≡ get_or (own_pair c s dead helpers u messages x) which 0
unfolding own_pairs own_pair
pairs_at c s dead helpers u messages x which k w = flat_at 2 (own_pair c s dead helpers u messages) (message_size s dead) (λ i _. refl) x which 0 k w

-- what a helper that holds X's symbols sends
pub message_sum : (c : Code) {s : Shape} {dead : List ℕ} → Dead s dead → (X : List ℕ) (u i x : ℕ) → u < length dead → x < message_size s dead
    → get_or (helper_message c s dead u (piece (size s) i X)) x 0 ≡ sum_of c s X i (spot_at s dead u x)
unfolding helper_message added sum_of symbol spot_at
message_sum c {s} {dead} D X u i x l h =
    let J = joined D u l x h in
    map_at (added c (piece (size s) i X)) (spots s dead u) x no_spot 0 (rw (spots_size D u) h)
    ∙ ap₂ (λ y z. (y + z) % c.modulus) (piece_at (size s) i X _ 0 J.one_below) (piece_at (size s) i X _ 0 J.other_below)

module _ (c : Code) (s : Shape) (dead helpers X : List ℕ) (A : Accepted c s dead helpers) (W : Codeword c s X) (u : ℕ) (l : u < length dead) (messages : List ℕ)
    (told : (j x : ℕ) → j < length helpers → x < message_size s dead → get_or messages (j * message_size s dead + x) 0 ≡ sum_of c s X (get_or helpers j 0) (spot_at s dead u x)) where
  below : node dead u < s.n
  below = node_below (dead_of A) u l

  -- at each sum, the column of X's sums
  solved_is : (x : ℕ) → x < message_size s dead → solved c s dead helpers u messages x ≡ sum_column c s X (node dead u) (spot_at s dead u x)
  unfolding solved node
  solved_is x k =
      sym
      (completed_only c.modulus A.code.prime ps (more_good c s.n A.code _ (node dead u) below) helpers
      (rw more (rising_more s.n helpers A.lists.helpers_rising))
      (λ j. get_or messages (j * message_size s dead + x) 0) column
      (record {
        long = sums_length c s X (node dead u) (spot_at s dead u x) ∙ sym more;
        small = λ j h. sums_below c s X A.code W (node dead u) below (spot_at s dead u x) J j (rw more at h);
        listed = λ j h.
            sums_sum c s X (node dead u) (spot_at s dead u x) (get_or helpers j 0) (rising_below s.n helpers A.lists.helpers_rising j h)
            (λ e. A.lists.apart u j l h (sym e))
            ∙ sym (told j x h k);
        met = λ t h. sums_met c s X A.code W (node dead u) below (spot_at s dead u x) J t (omega (arith, more, A.lists.helpers_count));
      }))
    where
      ps : List ℕ
      ps = more_points c s.n (spot_at s dead u x).a (node dead u)

      column : List ℕ
      column = sum_column c s X (node dead u) (spot_at s dead u x)

      more : length ps ≡ suc s.n
      more = more_length c s.n (spot_at s dead u x).a (node dead u)

      J : Joined s (node dead u) (spot_at s dead u x)
      J = joined (dead_of A) u l x k

  pub pairs_one : (x : ℕ) → x < message_size s dead
      → get_or (own_pairs c s dead helpers u messages) (x * 2 + 0) 0 ≡ symbol s X (node dead u) (spot_at s dead u x).one
  unfolding own_pair
  pairs_one x k =
      pairs_at c s dead helpers u messages x 0 k (omega arith) ∙ ap (λ z. get_or z (node dead u) 0) (solved_is x k)
      ∙ sums_one c s X (node dead u) (spot_at s dead u x) below

  pub pairs_other : (x : ℕ) → x < message_size s dead
      → get_or (own_pairs c s dead helpers u messages) (x * 2 + 1) 0 ≡ symbol s X (node dead u) (spot_at s dead u x).other
  unfolding own_pair
  pairs_other x k =
      pairs_at c s dead helpers u messages x 1 k (omega arith) ∙ ap (λ z. get_or z s.n 0) (solved_is x k)
      ∙ sums_other c s X (node dead u) (spot_at s dead u x)

  -- its message to another node j
  pub exchange_sum : (j x : ℕ) → j < s.n → j ≢ node dead u → x < message_size s dead
      → get_or (exchange c s dead helpers u messages j) x 0 ≡ sum_of c s X j (spot_at s dead u x)
  unfolding exchange exchange_at
  exchange_sum j x h d k =
      tabulate_at (message_size s dead) (exchange_at c s dead helpers u messages j) x 0 k
      ∙ ap (λ z. get_or z j 0) (solved_is x k) ∙ sums_sum c s X (node dead u) (spot_at s dead u x) j h d
