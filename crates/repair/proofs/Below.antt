-- What goes over the wire is below the modulus: the helpers' messages to a rank; what it works out of them in its first step, its own pairs
-- and its messages of sums; and so what the other ranks send to it.
use mathlib.Core.Path.{refl}
use mathlib.Core.List.{List}
use Prim.Native.Nat.{ℕ, zero, suc, ◌+◌, ◌*◌, ◌-◌, ◌<◌}
use native.Mathlib.Nat.{mod-lt}
use native.Mathlib.Omega.{arith}
use lib.ListN.{length, get_or, length-map}
use Rattle.lists.proofs.Tables.{tabulate_length, tabulate_at, map_at}
use Rattle.lists.proofs.Members.{rising_more}
use Rattle.column.specs.Column.{completed, Completion}
use Rattle.column.proofs.Column.{completed_is}
use Rattle.shape.specs.declared.Shape.{Shape}
use Rattle.rows.specs.Rows.{Low}
use Rattle.rows.proofs.Rows.{low_each, low_flat}
use Rattle.code.specs.Code.{narrow, more_points}
use Rattle.code.proofs.NodePoints.{more_length, more_good}
use Rattle.classes.specs.Classes.{node, spots, no_spot, spot_at, message_size}
use Rattle.classes.specs.Steps.{added, helper_message, solved, own_pair, own_pairs, exchange_at, exchange, other_rank}
use Rattle.classes.specs.Whole.{from_helper, from_helpers, from_sender, from_dead}
use Rattle.classes.proofs.Dead.{Accepted, dead_of, node_below}
use Rattle.classes.proofs.Placing.{other_is}
use Rattle.classes.proofs.FirstStep.{message_length}
use Rattle.classes.proofs.Wire.{from_helpers_length, from_sender_length}
use Rattle.solving.specs.Solving.{Helped}

module _ (s : Shape) (dead helpers : List ℕ) (A : Accepted narrow s dead helpers) (u : ℕ) (messages : List ℕ) (H : Helped s dead helpers u messages) where
  solved_low : (x : ℕ) → x < message_size s dead → Low narrow.modulus (solved narrow s dead helpers u messages x)
  unfolding solved
  solved_low x k = low_each narrow.modulus (completed narrow.modulus ps helpers values) (omega arith) (λ i h. C.small i (rw C.long at h))
    where
      ps : List ℕ
      ps = more_points narrow s.n (spot_at s dead u x).a (node dead u)

      values : ℕ → ℕ
      values j = get_or messages (j * message_size s dead + x) 0

      C : Completion narrow.modulus ps helpers values (completed narrow.modulus ps helpers values)
      C =
          completed_is narrow.modulus A.code.prime ps (more_good narrow s.n A.code _ (node dead u) (node_below (dead_of A) u H.rank)) helpers
          (rw (more_length narrow s.n (spot_at s dead u x).a (node dead u)) (rising_more s.n helpers H.rises)) values (λ j h. H.below j x (rw H.count at h) k)

  pub pairs_low : Low narrow.modulus (own_pairs narrow s dead helpers u messages)
  unfolding own_pairs own_pair
  pairs_low = low_flat narrow.modulus 2 (message_size s dead) (own_pair narrow s dead helpers u messages) (omega arith) (λ x. refl) (λ x k. record { at = each x k })
    where
      each : (x : ℕ) → x < message_size s dead → (e : ℕ) → get_or (own_pair narrow s dead helpers u messages x) e 0 < narrow.modulus
      each x k zero = (solved_low x k).at (node dead u)
      each x k (suc zero) = (solved_low x k).at s.n
      each x k (suc (suc e)) = omega arith

  pub exchange_low : (i : ℕ) → Low narrow.modulus (exchange narrow s dead helpers u messages i)
  unfolding exchange exchange_at
  exchange_low i =
      low_each narrow.modulus (exchange narrow s dead helpers u messages i) (omega arith)
      (λ x h. let k : x < message_size s dead = rw (tabulate_length (message_size s dead) (exchange_at narrow s dead helpers u messages i)) at h in
      rw (tabulate_at (message_size s dead) (exchange_at narrow s dead helpers u messages i) x 0 k) ((solved_low x k).at i))

-- ---- the messages of one archive

module _ (s : Shape) (dead helpers nodes : List ℕ) (A : Accepted narrow s dead helpers) where
  message_low : (u : ℕ) (symbols : List ℕ) → Low narrow.modulus (helper_message narrow s dead u symbols)
  unfolding helper_message added
  message_low u symbols =
      low_each narrow.modulus (helper_message narrow s dead u symbols) (omega arith)
      (λ e l.
      rw (map_at (added narrow symbols) (spots s dead u) e no_spot 0 (rw (length-map (spots s dead u) (added narrow symbols)) at l))
      (mod-lt _ (omega arith)))

  pub from_helpers_low : (u : ℕ) → Low narrow.modulus (from_helpers narrow s dead helpers nodes u)
  unfolding from_helpers from_helper
  from_helpers_low u =
      low_flat narrow.modulus (message_size s dead) (length helpers) (from_helper narrow s dead helpers nodes u) (omega arith)
      (λ j. message_length (dead_of A) narrow u _) (λ j _. message_low u _)

  -- what the work of a first step asks for
  pub from_helpers_helped : (u : ℕ) → u < length dead → Helped s dead helpers u (from_helpers narrow s dead helpers nodes u)
  from_helpers_helped u l = record {
    rises = A.lists.helpers_rising;
    count = A.lists.helpers_count;
    apart = A.lists.apart;
    rank = l;
    long = from_helpers_length (dead_of A) narrow helpers nodes A.lists.helpers_count u;
    below = λ j x _ _. (from_helpers_low u).at (j * message_size s dead + x);
  }

  pub from_dead_low : (u : ℕ) → u < length dead → Low narrow.modulus (from_dead narrow s dead helpers nodes u)
  unfolding from_dead from_sender
  from_dead_low u l =
      low_flat narrow.modulus (message_size s dead) (length dead - 1) (from_sender narrow s dead helpers nodes u) (omega arith)
      (from_sender_length narrow s dead helpers nodes u)
      (λ j k.
      let v = other_rank u j in
      exchange_low s dead helpers A v (from_helpers narrow s dead helpers nodes v) (from_helpers_helped v (other_is (length dead) u j l k).0) (node dead u))
