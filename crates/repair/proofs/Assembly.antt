-- The whole repair assembled: from the helpers' messages, the exchanges and the second steps, the wire and the nodes that the definitions give.
use mathlib.Core.Path.{◌≡◌, refl, sym, ap, ap₂, ◌∙◌}
use mathlib.Core.Logic.{◌≢◌}
use mathlib.Core.Bool.{Bool, true, false, true≢false}
use mathlib.Core.List.{List, [], ◌++◌, append-nil}
use Prim.Native.Nat.{ℕ, zero, suc, ◌+◌, ◌*◌, ◌-◌, ◌/◌, ◌%◌, ◌≤◌, ◌<◌}
use native.Mathlib.Omega.{arith}
use lib.ListN.{length, get_or, drop, length-drop, take-append-drop}
use lib.Seq.{ext_get_or, get_or-drop}
use Rattle.lists.specs.Lists.{flat, piece, member, position}
use Rattle.lists.proofs.Tests.{cond_true, cond_false}
use Rattle.lists.proofs.Tables.{tabulate_at, is_tabulate}
use Rattle.lists.proofs.Members.{at_position, member_of}
use Rattle.lists.proofs.Flats.{flat_length, flat_at, flat_piece, piece_at}
use Rattle.lists.proofs.Places.{Place, place_of}
use Rattle.shape.specs.declared.Shape.{Shape}
use Rattle.shape.specs.Shape.{size}
use Rattle.code.specs.Code.{narrow}
use Rattle.classes.specs.Classes.{node, message_size}
use Rattle.classes.specs.Steps.{other_rank, exchange_at, exchange, solved, own_pairs, contents}
use Rattle.classes.specs.Whole.{from_helpers, from_sender, from_dead, wire, renewed, repaired_symbol, repaired}
use Rattle.solving.specs.Solving.{slot_of}
use Rattle.wiring.specs.Wires.{inward, inwards, to_rank, Messaged, Wired, Exchanged, from_others, Renewable, Renewed}
use Rattle.classes.proofs.Dead.{Dead, Accepted, dead_of}
use Rattle.classes.proofs.Placing.{other_is}
use Rattle.classes.proofs.Wire.{from_sender_length, from_dead_length}
use Rattle.wiring.proofs.OnWire.{helpers_length}
use Rattle.repair.proofs.Below.{pairs_low, from_helpers_helped, from_dead_low}

-- a list of n times m elements by its rows
is_flat : (n m : ℕ) (f : ℕ → List ℕ) (l : List ℕ) → ((i : ℕ) → length (f i) ≡ m) → length l ≡ n * m → ((i x : ℕ) → i < n → x < m → get_or l (i * m + x) 0 ≡ get_or (f i) x 0) → l ≡ flat n f
is_flat n m f l w e h =
    ext_get_or 0 l (flat n f) (e ∙ sym (flat_length m f n (λ i _. w i)))
    (λ i k. let p = place_of n m i (omega (arith, e)) in
    ap (λ z. get_or l z 0) (sym p.whole) ∙ h (i / m) (i % m) p.row p.place ∙ sym (flat_at m f n (λ i _. w i) (i / m) (i % m) 0 p.row p.place)
    ∙ ap (λ z. get_or (flat n f) z 0) p.whole)

-- the plan's total: the helpers' messages, and the exchanges
pub wire_due : (s : Shape) (dead : List ℕ) → 1 ≤ length dead
    → length dead * (s.k + length dead) * message_size s dead ≡ inwards s dead + length dead * (length dead - 1) * message_size s dead
unfolding inwards inward
wire_due s dead m = total (length dead) m
  where
    M : ℕ
    M = message_size s dead

    total : (h : ℕ) → 1 ≤ h → h * (s.k + h) * M ≡ h * ((s.k + 1) * M) + h * (h - 1) * M
    total zero m = absurd (omega arith)
    total (suc h) m =
        (let f : suc h * (s.k + suc h) * M ≡ suc h * ((s.k + 1) * M) + suc h * h * M = omega arith in f)
        ∙ ap (λ z. suc h * ((s.k + 1) * M) + suc h * z * M) (let e : h ≡ suc h - 1 = omega arith in e)

module _ (s : Shape) (dead helpers nodes wire₀ W₁ : List ℕ) (A : Accepted narrow s dead helpers) (due : length wire₀ ≡ length dead * (s.k + length dead) * message_size s dead)
    (G : Messaged s dead helpers nodes wire₀ W₁) where
  abbrev D : Dead s dead
  D = dead_of A

  abbrev h : ℕ
  h = length dead

  abbrev M : ℕ
  M = message_size s dead

  abbrev K : ℕ
  K = inward s dead

  abbrev told : ℕ → List ℕ
  told = from_helpers narrow s dead helpers nodes

  told_length : (u : ℕ) → length (told u) ≡ K
  told_length u = helpers_length D helpers nodes A.lists.helpers_count u

  base : inwards s dead ≡ h * K
  unfolding inwards
  base = refl

  wired_long : length W₁ ≡ inwards s dead + h * (h - 1) * M
  wired_long = G.long ∙ due ∙ wire_due s dead A.lists.some_dead

  -- the messages to a rank are what the helpers give
  to_rank_lem : (u : ℕ) → u < h → to_rank s dead u W₁ ≡ told u
  unfolding to_rank
  to_rank_lem u l =
      ap (piece K u) (sym (take-append-drop (inwards s dead) W₁) ∙ ap (λ z. z ++ drop (inwards s dead) W₁) G.head)
      ∙ flat_piece K told h (λ i _. told_length i) (drop (inwards s dead) W₁) u l 0

  pub wired : Wired s dead helpers W₁
  unfolding inward
  wired = record {
    long = wired_long;
    helped = λ u l. rw (to_rank_lem u l) (from_helpers_helped s dead helpers nodes A u l);
  }

  module _ (N₁ W₂ : List ℕ) (E : Exchanged s dead helpers nodes N₁ W₁ W₂) where
    -- ---- the wire

    back : List ℕ
    back = drop (inwards s dead) W₂

    back_length : length back ≡ h * ((h - 1) * M)
    unfolding back
    back_length = length-drop (inwards s dead) W₂ ∙ omega (arith, E.long, wired_long)

    exchanged : (v j y : ℕ) → v < h → j < h - 1 → y < M → get_or back (v * ((h - 1) * M) + (j * M + y)) 0 ≡ get_or (from_sender narrow s dead helpers nodes v j) y 0
    unfolding back from_sender exchange exchange_at slot_of
    exchanged v j y l k m =
        let u = other_rank v j in
        let o = other_is h v j l k in
        let d : v ≢ u = λ z. o.1 (sym z) in
        get_or-drop (inwards s dead) W₂ (v * ((h - 1) * M) + (j * M + y)) 0
        ∙ ap (λ z. get_or W₂ (inwards s dead + z) 0) (let e : v * ((h - 1) * M) + (j * M + y) ≡ (v * (h - 1) + j) * M + y = omega arith in e)
        ∙ ap (λ z. get_or W₂ (inwards s dead + ((v * (h - 1) + z) * M + y)) 0) (sym o.2)
        ∙ E.each u v y o.0 l d m
        ∙ ap (λ z. get_or (solved narrow s dead helpers u z y) (node dead v) 0) (to_rank_lem u o.0)
        ∙ sym (tabulate_at M (exchange_at narrow s dead helpers u (told u) (node dead v)) y 0 m)

    back_row : (v z : ℕ) → v < h → z < (h - 1) * M → get_or back (v * ((h - 1) * M) + z) 0 ≡ get_or (from_dead narrow s dead helpers nodes v) z 0
    unfolding from_dead
    back_row v z l k =
        let p = place_of (h - 1) M z k in
        ap (λ y. get_or back (v * ((h - 1) * M) + y) 0) (sym p.whole) ∙ exchanged v (z / M) (z % M) l p.row p.place
        ∙ sym (flat_at M (from_sender narrow s dead helpers nodes v) (h - 1) (λ j _. from_sender_length narrow s dead helpers nodes v j) (z / M) (z % M) 0 p.row p.place)
        ∙ ap (λ y. get_or (from_dead narrow s dead helpers nodes v) y 0) p.whole

    back_is : back ≡ flat h (from_dead narrow s dead helpers nodes)
    back_is = is_flat h ((h - 1) * M) (from_dead narrow s dead helpers nodes) back (from_dead_length narrow s dead helpers nodes) back_length back_row

    pub wire_is : W₂ ≡ wire narrow s dead helpers nodes
    unfolding wire back
    wire_is =
        sym (take-append-drop (inwards s dead) W₂)
        ∙ ap₂ ◌++◌ (E.head ∙ G.head) back_is

    others_are : (u : ℕ) → u < h → from_others s dead u W₂ ≡ from_dead narrow s dead helpers nodes u
    unfolding from_others back
    others_are u l =
        ap (piece ((h - 1) * M) u) (back_is ∙ sym (append-nil (flat h (from_dead narrow s dead helpers nodes))))
        ∙ flat_piece ((h - 1) * M) (from_dead narrow s dead helpers nodes) h (λ v _. from_dead_length narrow s dead helpers nodes v) [] u l 0

    pub renewable : Renewable s dead N₁ W₂
    renewable = record {
      own = λ u l. record {
        pairs = own_pairs narrow s dead helpers u (to_rank s dead u W₁);
        paired = E.own u l;
        low = pairs_low s dead helpers A u (to_rank s dead u W₁) (wired.helped u l);
      };
      received = λ u l. rw (others_are u l) (from_dead_low s dead helpers nodes A u l);
    }

    -- ---- the nodes

    module _ (N₂ : List ℕ) (all : length nodes ≡ s.n * size s) (R : Renewed s dead N₁ N₂ W₂) where
      new_is : (u : ℕ) → u < h → piece (size s) (node dead u) N₂ ≡ renewed narrow s dead helpers nodes u
      unfolding renewed
      new_is u l =
          R.new u l (own_pairs narrow s dead helpers u (to_rank s dead u W₁)) (E.own u l)
          ∙ ap₂ (λ y z. contents narrow s dead u (own_pairs narrow s dead helpers u y) z) (to_rank_lem u l) (others_are u l)

      old_is : (i : ℕ) → i < s.n → member i dead ≡ false → piece (size s) i N₂ ≡ piece (size s) i nodes
      unfolding node
      old_is i k e = R.kept i k away ∙ E.kept i k away
        where
          away : (u : ℕ) → u < h → get_or dead u 0 ≡ i → ⊥
          away u l z = true≢false (sym (member_of dead u l) ∙ ap (λ y. member y dead) z ∙ e)

      pub nodes_are : N₂ ≡ repaired narrow s dead helpers nodes
      unfolding repaired repaired_symbol node
      nodes_are = is_tabulate N₂ (s.n * size s) (repaired_symbol narrow s dead helpers nodes) 0 (R.long ∙ E.nodes_long ∙ all) (λ e k. each e (place_of s.n (size s) e k) (member (e / size s) dead) refl)
        where
          each : (e : ℕ) → Place s.n (size s) e → (t : Bool) → member (e / size s) dead ≡ t → get_or N₂ e 0 ≡ repaired_symbol narrow s dead helpers nodes e
          each e p true t =
              let w = at_position dead (e / size s) t in
              ap (λ z. get_or N₂ z 0) (sym p.whole) ∙ sym (piece_at (size s) (e / size s) N₂ (e % size s) 0 p.place)
              ∙ ap (λ z. get_or (piece (size s) z N₂) (e % size s) 0) (sym w.1)
              ∙ ap (λ z. get_or z (e % size s) 0) (new_is (position (e / size s) dead) w.0)
              ∙ sym (cond_true _ _ (member (e / size s) dead) t)
          each e p false t =
              ap (λ z. get_or N₂ z 0) (sym p.whole) ∙ sym (piece_at (size s) (e / size s) N₂ (e % size s) 0 p.place)
              ∙ ap (λ z. get_or z (e % size s) 0) (old_is (e / size s) p.row t)
              ∙ piece_at (size s) (e / size s) nodes (e % size s) 0 p.place ∙ ap (λ z. get_or nodes z 0) p.whole
              ∙ sym (cond_false _ _ (member (e / size s) dead) t)
