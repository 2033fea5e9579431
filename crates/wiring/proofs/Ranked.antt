-- The loops of a whole repair over the ranks: what stands in the nodes and on the wire when the ranks below u are done.
use mathlib.Core.Path.{◌≡◌, refl, sym, subst, ◌∙◌}
use mathlib.Core.Logic.{◌≢◌}
use mathlib.Core.Bool.{true}
use mathlib.Core.List.{List}
use Prim.Native.Nat.{ℕ, ◌+◌, ◌*◌, ◌-◌, ◌≤◌, ◌<◌}
use native.Mathlib.Decide.{ℕ_discrete}
use native.Mathlib.Omega.{arith}
use borrow.Rule.Slice.PartMut.{put_mid}
use lib.ListN.{length, get_or, take}
use Rattle.lists.specs.Lists.{piece}
use Rattle.shape.specs.declared.Shape.{Shape}
use Rattle.shape.specs.Shape.{size}
use Rattle.code.specs.Code.{narrow}
use Rattle.classes.specs.Classes.{node, message_size}
use Rattle.classes.specs.Steps.{solved, own_pairs, contents}
use Rattle.steps.specs.Storing.{Paired, Recovers}
use Rattle.solving.specs.Solving.{slot_of}
use Rattle.wiring.specs.Wires.{inwards, to_rank, FirstOnWire, Exchanged, from_others, Renewed}
use Rattle.classes.proofs.Dead.{Dead, node_below, node_own}
use Rattle.solving.proofs.Slots.{senders_apart}
use Rattle.lists.proofs.Parts.{put_piece_length, put_piece, put_other}
use Rattle.wiring.proofs.OnWire.{to_rank_front}

module _ (s : Shape) (dead helpers : List ℕ) where
  abbrev N : ℕ
  N = size s

  abbrev M : ℕ
  M = message_size s dead

  abbrev h : ℕ
  h = length dead

  pub record Exchanging (u : ℕ) (nodes₀ nodes wire₀ wire : List ℕ) : Type 0 where
    pub nodes_long : length nodes ≡ length nodes₀
    pub long : length wire ≡ length wire₀
    pub head : take (inwards s dead) wire ≡ take (inwards s dead) wire₀
    pub own : (t : ℕ) → t < u → t < length dead → Paired s dead t (own_pairs narrow s dead helpers t (to_rank s dead t wire₀)) (piece (size s) (node dead t) nodes)
    pub kept : (i : ℕ) → i < s.n → ((t : ℕ) → t < u → t < length dead → node dead t ≢ i) → piece (size s) i nodes ≡ piece (size s) i nodes₀
    pub each : (t v y : ℕ) → t < u → t < length dead → v < length dead → v ≢ t → y < message_size s dead
        → get_or wire (inwards s dead + (slot_of true (length dead) t v * message_size s dead + y)) 0 ≡ get_or (solved narrow s dead helpers t (to_rank s dead t wire₀) y) (node dead v) 0

  pub exchanging_none : (nodes wire : List ℕ) → Exchanging 0 nodes nodes wire wire
  exchanging_none nodes wire = record {
    nodes_long = refl;
    long = refl;
    head = refl;
    own = λ t l. absurd (omega arith);
    kept = λ i l d. refl;
    each = λ t v y l. absurd (omega arith);
  }

  module _ (D : Dead s dead) (u : ℕ) (l : u < length dead) where
    i_low : node dead u < s.n
    i_low = node_below D u l

    apart : (t : ℕ) → t < u → t < length dead → node dead t ≢ node dead u
    apart t k m = node_own D t u m l (λ e. omega arith)

    pub exchanging_more : (nodes₀ nodes wire₀ wire p after : List ℕ) → length nodes₀ ≡ s.n * size s → inwards s dead ≤ length wire₀ → length p ≡ size s
        → Exchanging u nodes₀ nodes wire₀ wire → FirstOnWire s dead helpers u p wire after
        → Exchanging (u + 1) nodes₀ (put_mid (node dead u * size s) (node dead u * size s + size s - node dead u * size s) nodes p) wire₀ after
    exchanging_more nodes₀ nodes wire₀ wire p after all room long E F = record {
      nodes_long = put_piece_length s.n N (node dead u) nodes p i_low whole long ∙ E.nodes_long;
      long = F.sent.long ∙ E.long;
      head = F.sent.head ∙ E.head;
      own = λ t k m. mine t k m (ℕ_discrete t u);
      kept = λ i k d. put_other s.n N (node dead u) nodes p i_low whole long i k (λ e. d u (omega arith) l (sym e)) ∙ E.kept i k (λ t a b. d t (omega arith) b);
      each = λ t v y k m n d q. sums t v y k m n d q (ℕ_discrete t u);
    }
      where
        whole : length nodes ≡ s.n * N
        whole = E.nodes_long ∙ all

        same : to_rank s dead u wire ≡ to_rank s dead u wire₀
        same = to_rank_front s dead u wire wire₀ l (omega (arith, E.long)) room E.head

        mine : (t : ℕ) → t < u + 1 → t < h → Dec (t ≡ u)
            → Paired s dead t (own_pairs narrow s dead helpers t (to_rank s dead t wire₀)) (piece N (node dead t) (put_mid (node dead u * N) (node dead u * N + N - node dead u * N) nodes p))
        mine t k m (yes e) = rw (e, put_piece s.n N (node dead u) nodes p i_low whole long, ← same) F.own
        mine t k m (no e) = let b : t < u = omega arith in rw (put_other s.n N (node dead u) nodes p i_low whole long (node dead t) (node_below D t m) (apart t b m)) (E.own t b m)

        sums : (t v y : ℕ) → t < u + 1 → t < h → v < h → v ≢ t → y < M → Dec (t ≡ u)
            → get_or after (inwards s dead + (slot_of true h t v * M + y)) 0 ≡ get_or (solved narrow s dead helpers t (to_rank s dead t wire₀) y) (node dead v) 0
        sums t v y k m n d q (yes e) = rw (e, ← same) (F.sent.each v y n (λ z. d (z ∙ sym e)) q)
        sums t v y k m n d q (no e) =
            F.sent.rest (slot_of true h t v * M + y) (λ w x a b c z. e (sym (senders_apart h M u w x t v y l a b m n d c q z))) ∙ E.each t v y (omega arith) m n d q

  pub exchanging_end : (u : ℕ) (nodes₀ nodes wire₀ wire : List ℕ) → u ≡ length dead → Exchanging u nodes₀ nodes wire₀ wire → Exchanged s dead helpers nodes₀ nodes wire₀ wire
  exchanging_end u nodes₀ nodes wire₀ wire e E = record {
    nodes_long = E.nodes_long;
    own = λ t k. E.own t (omega arith) k;
    kept = λ i k d. E.kept i k (λ t a b. d t b);
    long = E.long;
    head = E.head;
    each = λ t v y k m d q. E.each t v y (omega arith) k m d q;
  }

-- ---- the second steps

module _ (s : Shape) (dead : List ℕ) where
  pub record Renewing (u : ℕ) (nodes₀ nodes wire : List ℕ) : Type 0 where
    pub long : length nodes ≡ length nodes₀
    pub new : (t : ℕ) → t < u → t < length dead → (pairs : List ℕ) → Paired s dead t pairs (piece (size s) (node dead t) nodes₀)
        → piece (size s) (node dead t) nodes ≡ contents narrow s dead t pairs (from_others s dead t wire)
    pub kept : (i : ℕ) → i < s.n → ((t : ℕ) → t < u → t < length dead → node dead t ≢ i) → piece (size s) i nodes ≡ piece (size s) i nodes₀

  pub renewing_none : (nodes wire : List ℕ) → Renewing 0 nodes nodes wire
  renewing_none nodes wire = record { long = refl; new = λ t l. absurd (omega arith); kept = λ i l d. refl }

  -- a rank's node is as it was before its own second step
  pub renewing_own : Dead s dead → (u : ℕ) → u < length dead → (nodes₀ nodes wire : List ℕ) → Renewing u nodes₀ nodes wire → piece (size s) (node dead u) nodes ≡ piece (size s) (node dead u) nodes₀
  renewing_own D u l nodes₀ nodes wire E = E.kept (node dead u) (node_below D u l) (λ t k m. node_own D t u m l (λ e. omega arith))

  pub renewing_more : Dead s dead → (u : ℕ) → u < length dead → (nodes₀ nodes wire p : List ℕ) → length nodes₀ ≡ s.n * size s → length p ≡ size s
      → Renewing u nodes₀ nodes wire → Recovers narrow s dead u (from_others s dead u wire) (piece (size s) (node dead u) nodes) p
      → Renewing (u + 1) nodes₀ (put_mid (node dead u * size s) (node dead u * size s + size s - node dead u * size s) nodes p) wire
  renewing_more D u l nodes₀ nodes wire p all long E F = record {
    long = put_piece_length s.n (size s) (node dead u) nodes p i_low' whole long ∙ E.long;
    new = λ t k m. mine t k m (ℕ_discrete t u);
    kept = λ i k d. put_other s.n (size s) (node dead u) nodes p i_low' whole long i k (λ e. d u (omega arith) l (sym e)) ∙ E.kept i k (λ t a b. d t (omega arith) b);
  }
    where
      i_low' : node dead u < s.n
      i_low' = node_below D u l

      whole : length nodes ≡ s.n * size s
      whole = E.long ∙ all

      mine : (t : ℕ) → t < u + 1 → t < length dead → Dec (t ≡ u) → (pairs : List ℕ) → Paired s dead t pairs (piece (size s) (node dead t) nodes₀)
          → piece (size s) (node dead t) (put_mid (node dead u * size s) (node dead u * size s + size s - node dead u * size s) nodes p) ≡ contents narrow s dead t pairs (from_others s dead t wire)
      mine t k m (yes e) pairs P =
          rw e (put_piece s.n (size s) (node dead u) nodes p i_low' whole long ∙ F.whole pairs (rw (renewing_own D u l nodes₀ nodes wire E) (subst (λ z. Paired s dead z pairs (piece (size s) (node dead z) nodes₀)) e P)))
      mine t k m (no e) pairs P =
          let b : t < u = omega arith in
          put_other s.n (size s) (node dead u) nodes p i_low' whole long (node dead t) (node_below D t m) (node_own D t u m l e) ∙ E.new t b m pairs P

  pub renewing_end : (u : ℕ) (nodes₀ nodes wire : List ℕ) → u ≡ length dead → Renewing u nodes₀ nodes wire → Renewed s dead nodes₀ nodes wire
  renewing_end u nodes₀ nodes wire e E = record {
    long = E.long;
    new = λ t k. E.new t (omega arith) k;
    kept = λ i k d. E.kept i k (λ t a b. d t b);
  }

-- the same of equal lists
pub recovers_as : (s : Shape) (dead : List ℕ) (u : ℕ) (r r' b b' p : List ℕ) → r ≡ r' → b ≡ b' → Recovers narrow s dead u r b p → Recovers narrow s dead u r' b' p
recovers_as s dead u r r' b b' p e f R = rw (← e, ← f) R
