-- The pieces of the wire, for any symbols: each message is what its sender gives, and a new node's symbols what its second step gives.
use mathlib.Core.Path.{◌≡◌, refl, sym, ap, ap₂, ◌∙◌}
use mathlib.Core.Logic.{◌≢◌}
use mathlib.Core.List.{List, [], ◌++◌, append-nil}
use Prim.Native.Nat.{ℕ, zero, suc, ◌+◌, ◌*◌, ◌-◌, ◌≤◌, ◌<◌}
use native.Mathlib.Nat.{mul_assoc}
use native.Mathlib.Omega.{arith}
use lib.ListN.{length, get_or, drop, length-append}
use lib.Seq.{drop_at}
use Rattle.lists.specs.Lists.{flat, piece}
use Rattle.lists.proofs.Flats.{piece_piece, piece_behind, flat_length, flat_at, flat_piece}
use Rattle.shape.specs.declared.Shape.{Shape}
use Rattle.shape.specs.Shape.{size}
use Rattle.code.specs.Code.{Code}
use Rattle.classes.specs.Classes.{node, message_size}
use Rattle.classes.specs.Steps.{helper_message, own_pairs, exchange, other_rank, place, contents}
use Rattle.classes.specs.Whole.{from_helper, from_helpers, from_sender, from_dead, wire, renewed}
use Rattle.classes.proofs.Placing.{place_below, other_place}
use Rattle.classes.proofs.Dead.{Dead, Accepted, dead_of}
use Rattle.classes.proofs.FirstStep.{message_length, exchange_length}

-- ---- how many symbols go to a rank

pub from_helpers_length : {s : Shape} {dead : List ℕ} → Dead s dead → (c : Code) (helpers nodes : List ℕ) → length helpers ≡ s.k + 1 → (u : ℕ)
    → length (from_helpers c s dead helpers nodes u) ≡ (s.k + 1) * message_size s dead
unfolding from_helpers from_helper
from_helpers_length {s} {dead} D c helpers nodes e u =
    flat_length (message_size s dead) (from_helper c s dead helpers nodes u) (length helpers) (λ j _. message_length D c u (piece (size s) (get_or helpers j 0) nodes))
    ∙ ap (λ z. z * message_size s dead) e

pub from_sender_length : (c : Code) (s : Shape) (dead helpers nodes : List ℕ) (u j : ℕ) → length (from_sender c s dead helpers nodes u j) ≡ message_size s dead
unfolding from_sender
from_sender_length c s dead helpers nodes u j = exchange_length c s dead helpers (other_rank u j) (from_helpers c s dead helpers nodes (other_rank u j)) (node dead u)

pub from_dead_length : (c : Code) (s : Shape) (dead helpers nodes : List ℕ) (u : ℕ) → length (from_dead c s dead helpers nodes u) ≡ (length dead - 1) * message_size s dead
unfolding from_dead
from_dead_length c s dead helpers nodes u =
    flat_length (message_size s dead) (from_sender c s dead helpers nodes u) (length dead - 1) (λ j _. from_sender_length c s dead helpers nodes u j)

module _ (c : Code) (s : Shape) (dead helpers nodes : List ℕ) (A : Accepted c s dead helpers) where
  abbrev M : ℕ
  M = message_size s dead

  abbrev h : ℕ
  h = length dead

  abbrev K : ℕ
  K = s.k + 1

  abbrev from_helpers' : ℕ → List ℕ
  from_helpers' = from_helpers c s dead helpers nodes

  abbrev from_dead' : ℕ → List ℕ
  from_dead' = from_dead c s dead helpers nodes

  abbrev wire' : List ℕ
  wire' = wire c s dead helpers nodes

  -- ---- the messages to one rank

  module _ (u : ℕ) where
    helper_length : (j : ℕ) → length (from_helper c s dead helpers nodes u j) ≡ M
    unfolding from_helper
    helper_length j = message_length (dead_of A) c u (piece (size s) (get_or helpers j 0) nodes)

    helpers_length : length (from_helpers' u) ≡ K * M
    helpers_length = from_helpers_length (dead_of A) c helpers nodes A.lists.helpers_count u

    helpers_piece : (j : ℕ) → j < length helpers → piece M j (from_helpers' u) ≡ helper_message c s dead u (piece (size s) (get_or helpers j 0) nodes)
    unfolding from_helpers from_helper
    helpers_piece j l =
        ap (piece M j) (sym (append-nil (from_helpers' u)))
        ∙ flat_piece M (from_helper c s dead helpers nodes u) (length helpers) (λ j _. helper_length j) [] j l 0

    pub helpers_at : (j x : ℕ) → j < length helpers → x < M
        → get_or (from_helpers c s dead helpers nodes u) (j * message_size s dead + x) 0 ≡ get_or (helper_message c s dead u (piece (size s) (get_or helpers j 0) nodes)) x 0
    unfolding from_helpers from_helper
    helpers_at j x l k = flat_at M (from_helper c s dead helpers nodes u) (length helpers) (λ j _. helper_length j) j x 0 l k

    sender_length : (j : ℕ) → length (from_sender c s dead helpers nodes u j) ≡ M
    sender_length = from_sender_length c s dead helpers nodes u

    dead_length : length (from_dead' u) ≡ (h - 1) * M
    dead_length = from_dead_length c s dead helpers nodes u

    module _ (l : u < h) (v : ℕ) (m : v < h) (d : v ≢ u) where
      from_rank : from_sender c s dead helpers nodes u (place u v) ≡ exchange c s dead helpers v (from_helpers' v) (node dead u)
      unfolding from_sender
      from_rank = ap (λ w. exchange c s dead helpers w (from_helpers' w) (node dead u)) (other_place h u v l m d)

      dead_piece : piece M (place u v) (from_dead' u) ≡ exchange c s dead helpers v (from_helpers' v) (node dead u)
      unfolding from_dead
      dead_piece =
          ap (piece M (place u v)) (sym (append-nil (from_dead' u)))
          ∙ flat_piece M (from_sender c s dead helpers nodes u) (h - 1) (λ j _. sender_length j) [] (place u v) (place_below h u v l m d) 0 ∙ from_rank

      pub dead_at : (x : ℕ) → x < M
          → get_or (from_dead c s dead helpers nodes u) (place u v * message_size s dead + x) 0
          ≡ get_or (exchange c s dead helpers v (from_helpers c s dead helpers nodes v) (node dead u)) x 0
      unfolding from_dead
      dead_at x k =
          flat_at M (from_sender c s dead helpers nodes u) (h - 1) (λ j _. sender_length j) (place u v) x 0 (place_below h u v l m d) k
          ∙ ap (λ z. get_or z x 0) from_rank

  -- ---- the wire

  first : List ℕ
  first = flat h from_helpers'

  second : List ℕ
  second = flat h from_dead'

  wire_is : wire' ≡ first ++ second
  unfolding wire first second
  wire_is = refl

  first_length : length first ≡ h * (K * M)
  unfolding first
  first_length = flat_length (K * M) from_helpers' h (λ u _. helpers_length u)

  second_length : length second ≡ h * ((h - 1) * M)
  unfolding second
  second_length = flat_length ((h - 1) * M) from_dead' h (λ u _. dead_length u)

  to_rank_lem : (u : ℕ) → u < h → piece (K * M) u wire' ≡ from_helpers' u
  unfolding first
  to_rank_lem u l = ap (piece (K * M) u) wire_is ∙ flat_piece (K * M) from_helpers' h (λ u _. helpers_length u) second u l 0

  among : (u : ℕ) → u < h → piece ((h - 1) * M) u second ≡ from_dead' u
  unfolding second
  among u l = ap (piece ((h - 1) * M) u) (sym (append-nil second)) ∙ flat_piece ((h - 1) * M) from_dead' h (λ u _. dead_length u) [] u l 0

  -- the count of all messages' symbols
  pub wire_count : length (wire c s dead helpers nodes) ≡ length dead * (s.k + length dead) * message_size s dead
  wire_count = ap length wire_is ∙ length-append first second ∙ ap₂ ◌+◌ first_length second_length ∙ total h A.lists.some_dead
    where
      total : (h : ℕ) → 1 ≤ h → h * (K * M) + h * ((h - 1) * M) ≡ h * (s.k + h) * M
      total zero m = absurd (omega arith)
      total (suc h) m = ap (λ z. suc h * (K * M) + suc h * (z * M)) (let e : suc h - 1 ≡ h = omega arith in e) ∙ omega arith

  pub wire_helper : (u j : ℕ) → u < length dead → j < length helpers
      → piece (message_size s dead) (u * (s.k + 1) + j) (wire c s dead helpers nodes) ≡ helper_message c s dead u (piece (size s) (get_or helpers j 0) nodes)
  wire_helper u j l m =
      sym (piece_piece M K u j wire' (rw A.lists.helpers_count at m)) ∙ ap (piece M j) (to_rank_lem u l) ∙ helpers_piece u j m

  pub wire_dead : (u v : ℕ) → u < length dead → v < length dead → v ≢ u
      → piece (message_size s dead) (length dead * (s.k + 1) + (u * (length dead - 1) + place u v)) (wire c s dead helpers nodes)
      ≡ exchange c s dead helpers v (piece ((s.k + 1) * message_size s dead) v (wire c s dead helpers nodes)) (node dead u)
  wire_dead u v l m d =
      ap (piece M (h * K + (u * (h - 1) + place u v))) wire_is
      ∙ piece_behind M (h * K) (u * (h - 1) + place u v) first second (first_length ∙ sym (mul_assoc h K M))
      ∙ sym (piece_piece M (h - 1) u (place u v) second (place_below h u v l m d))
      ∙ ap (piece M (place u v)) (among u l)
      ∙ dead_piece u l v m d
      ∙ ap (λ z. exchange c s dead helpers v z (node dead u)) (sym (to_rank_lem v m))

  pub renewed_by : (u : ℕ) → u < length dead
      → renewed c s dead helpers nodes u
      ≡ contents c s dead u (own_pairs c s dead helpers u (piece ((s.k + 1) * message_size s dead) u (wire c s dead helpers nodes)))
      (piece ((length dead - 1) * message_size s dead) u (drop (length dead * ((s.k + 1) * message_size s dead)) (wire c s dead helpers nodes)))
  unfolding renewed
  renewed_by u l =
      ap₂ (λ x y. contents c s dead u (own_pairs c s dead helpers u x) y) (sym (to_rank_lem u l))
      (sym (among u l) ∙ ap (piece ((h - 1) * M) u) (sym (ap (drop (h * (K * M))) wire_is ∙ drop_at first second (h * (K * M)) first_length)))
