-- The second step where a node was told a codeword's symbols and sums: it gives all N symbols of the codeword.
use mathlib.Core.Path.{◌≡◌, sym, ap, ap₂, subst, ◌∙◌}
use mathlib.Core.Logic.{◌≢◌}
use mathlib.Core.Bool.{cond}
use mathlib.Core.List.{List}
use Prim.Native.Nat.{ℕ, ◌+◌, ◌*◌, ◌/◌, ◌%◌, ◌^◌, ◌≤◌, ◌<◌}
use native.Mathlib.Decide.{ℕ_discrete}
use native.Mathlib.Nat.{mod-lt, div-add-mod, div-add-mod', div-lt_iff_lt-mul}
use native.Mathlib.Omega.{arith}
use lib.Arith.{digits_lt}
use lib.Bits.{bit_xor, xor_self, xor_zero_l}
use lib.Dec.{eqb}
use lib.ListN.{length, get_or}
use lib.Pow.{pow_pos}
use Rattle.lists.specs.Lists.{tabulate}
use Rattle.lists.specs.Digits.{flip}
use Rattle.lists.proofs.Tests.{cond_equal, cond_unequal}
use Rattle.lists.proofs.Tables.{tabulate_length, tabulate_ext}
use Rattle.lists.proofs.Flips.{flip_flip}
use Rattle.field.specs.Residues.{minus}
use Rattle.field.proofs.Bridge.{minus_sum, minus_sum'}
use Rattle.shape.specs.declared.Shape.{Shape}
use Rattle.shape.specs.Shape.{size}
use Rattle.code.specs.Code.{Code}
use Rattle.code.specs.Archive.{symbol, Codeword}
use Rattle.classes.specs.Classes.{Sum, batch, node, class_of, rank_class, partner, turning_rank, rank_at, place_of, spot, no_spot, spot_at, sum_at, message_size}
use Rattle.classes.specs.Steps.{place, own, sent, across, origin, layer0, layer, symbol_of, contents_at, contents}
use Rattle.classes.proofs.Sizes.{batch_pos}
use Rattle.classes.proofs.Dead.{Dead, node_below, flip_node_lt}
use Rattle.classes.proofs.Turns.{class_le, class_turned, partner_keeps}
use Rattle.classes.proofs.Ranks.{Rank, partner_lt, rank_class_le, turning_rank_lem, rank_at_lem}
use Rattle.classes.proofs.Sums.{spots_at, sum_at_lt}
use Rattle.classes.proofs.Adding.{row_below, sum_of}

-- what rank v was told: its own symbols at both places of each of its sums, and its sums of every other rank's messages
pub record Told (c : Code) (s : Shape) (dead X : List ℕ) (v : ℕ) (pairs received : List ℕ) : Type 0 where
  pub ones : (x : ℕ) → x < message_size s dead → get_or pairs (x * 2 + 0) 0 ≡ symbol s X (node dead v) (spot_at s dead v x).one
  pub others : (x : ℕ) → x < message_size s dead → get_or pairs (x * 2 + 1) 0 ≡ symbol s X (node dead v) (spot_at s dead v x).other
  pub sums : (u x : ℕ) → u < length dead → u ≢ v → x < message_size s dead
      → get_or received (place v u * message_size s dead + x) 0 ≡ sum_of c s X (node dead v) (spot_at s dead u x)

pub contents_length : (c : Code) (s : Shape) (dead : List ℕ) (v : ℕ) (pairs received : List ℕ) → length (contents c s dead v pairs received) ≡ size s
unfolding contents
contents_length c s dead v pairs received = tabulate_length (size s) (contents_at c s dead v pairs received)

module _ (c : Code) (s : Shape) (dead X : List ℕ) (D : Dead s dead) (W : Codeword c s X) (v : ℕ) (l : v < length dead) (pairs received : List ℕ)
    (T : Told c s dead X v pairs received) where
  abbrev own' : ℕ → ℕ → ℕ → ℕ
  own' = own c s dead v pairs received

  abbrev sent' : ℕ → ℕ → ℕ → ℕ
  sent' = sent c s dead v pairs received

  abbrev across' : ℕ → ℕ → ℕ → ℕ → ℕ
  across' = across c s dead v pairs received

  abbrev origin' : ℕ → ℕ → ℕ
  origin' = origin c s dead v pairs received

  abbrev layer0' : ℕ → ℕ → ℕ
  layer0' = layer0 c s dead v pairs received

  abbrev layer' : ℕ → ℕ → ℕ → ℕ
  layer' = layer c s dead v pairs received

  -- what the new node should hold
  at : ℕ → ℕ → ℕ → ℕ
  at w b a = symbol s X (node dead v) (place_of s dead w b a)

  at_below : (w b a : ℕ) → w < batch dead → b < s.layers / batch dead → a < 2 ^ s.n → at w b a < c.modulus
  unfolding at symbol place_of size
  at_below w b a h k m =
      W.small (node dead v * size s + place_of s dead w b a)
      (rw W.long (digits_lt (node_below D v l) (digits_lt (row_below s.layers (batch dead) b w k h) m)))

  spot_of : (u b a : ℕ) → Sum s dead u b a → spot_at s dead u (sum_at s dead u b a) ≡ spot s dead u b a
  unfolding spot_at
  spot_of u b a S = spots_at s dead u b a S no_spot

  own_first : (b a : ℕ) → Sum s dead v b a → own' 0 b a ≡ at 0 b a
  unfolding at own spot
  own_first b a S = T.ones (sum_at s dead v b a) (sum_at_lt D v b a S) ∙ ap (λ p. symbol s X (node dead v) p.one) (spot_of v b a S)

  own_second : (b a : ℕ) → Sum s dead v b a → own' 1 b a ≡ at (partner dead v) b (flip (node dead v) a)
  unfolding at own spot
  own_second b a S = T.others (sum_at s dead v b a) (sum_at_lt D v b a S) ∙ ap (λ p. symbol s X (node dead v) p.other) (spot_of v b a S)

  sent_sum : (u b a : ℕ) → u < length dead → u ≢ v → Sum s dead u b a → sent' u b a ≡ (at 0 b a + at (partner dead u) b (flip (node dead u) a)) % c.modulus
  unfolding at sent sum_of spot
  sent_sum u b a h d S = T.sums u (sum_at s dead u b a) h d (sum_at_lt D u b a S) ∙ ap (sum_of c s X (node dead v)) (spot_of u b a S)

  across_gives : (u b a first : ℕ) → u < length dead → Sum s dead u b a → first ≡ at 0 b a → across' u b a first ≡ at (partner dead u) b (flip (node dead u) a)
  unfolding across
  across_gives u b a first h S e = go (ℕ_discrete u v)
    where
      go : Dec (u ≡ v) → cond (eqb u v) (own' 1 b a) (minus c.modulus (sent' u b a) first) ≡ at (partner dead u) b (flip (node dead u) a)
      go (yes same) =
          cond_equal (own' 1 b a) (minus c.modulus (sent' u b a) first) u v same
          ∙ own_second b a (subst (λ z. Sum s dead z b a) same S)
          ∙ ap (λ z. at (partner dead z) b (flip (node dead z) a)) (sym same)
      go (no d) =
          cond_unequal (own' 1 b a) (minus c.modulus (sent' u b a) first) u v d
          ∙ ap₂ (minus c.modulus) (sent_sum u b a h d S) e
          ∙ minus_sum c.modulus (at 0 b a) (at (partner dead u) b (flip (node dead u) a))
          (at_below 0 b a (batch_pos dead) S.batched S.below)
          (at_below (partner dead u) b (flip (node dead u) a) (partner_lt dead u h) S.batched (flip_node_lt D u a h S.below))

  module _ (b : ℕ) (bb : b < s.layers / batch dead) where
    sum_of_lem : (u a : ℕ) → a < 2 ^ s.n → class_of dead a ≡ rank_class dead u → Sum s dead u b a
    sum_of_lem u a h e = record { batched = bb; below = h; inside = e }

    -- class 0 of layer 0
    origin_gives : (a : ℕ) → a < 2 ^ s.n → class_of dead a ≡ 0 → origin' b a ≡ at 0 b a
    unfolding origin
    origin_gives a k e = go (ℕ_discrete (rank_class dead v) 0)
      where
        u : ℕ
        u = turning_rank dead (rank_class dead v)

        a' : ℕ
        a' = flip (node dead u) a

        x : ℕ
        x = own' 0 b a

        y : ℕ
        y = minus c.modulus (sent' u b a) (own' 0 b a')

        go : Dec (rank_class dead v ≡ 0) → cond (eqb (rank_class dead v) 0) x y ≡ at 0 b a
        go (yes z) = cond_equal x y (rank_class dead v) 0 z ∙ own_first b a (sum_of_lem v a k (e ∙ sym z))
        go (no z) =
            cond_unequal x y (rank_class dead v) 0 z
            ∙ ap₂ (minus c.modulus)
            (sent_sum u b a r.below apart (sum_of_lem u a k (e ∙ sym r.class)) ∙ ap (λ w. (at 0 b a + at w b a') % c.modulus) r.partnered)
            (own_first b a' (sum_of_lem v a' k' (class_turned D (rank_class dead v) a pos (rank_class_le dead v) ∙ ap (λ z. bit_xor z (rank_class dead v)) e ∙ xor_zero_l (rank_class dead v))))
            ∙ minus_sum' c.modulus (at 0 b a) (at 0 b a') (at_below 0 b a (batch_pos dead) bb k) (at_below 0 b a' (batch_pos dead) bb k')
          where
            pos : 1 ≤ rank_class dead v
            pos = omega arith

            r : Rank dead u 0 0
            r = turning_rank_lem dead (rank_class dead v) pos (rank_class_le dead v)

            k' : a' < 2 ^ s.n
            k' = flip_node_lt D u a r.below k

            apart : u ≢ v
            apart same = z (ap (rank_class dead) (sym same) ∙ r.class)

    layer0_gives : (a : ℕ) → a < 2 ^ s.n → layer0' b a ≡ at 0 b a
    unfolding layer0
    layer0_gives a k = go (ℕ_discrete (class_of dead a) (rank_class dead v)) (ℕ_discrete (class_of dead a) 0)
      where
        u : ℕ
        u = turning_rank dead (class_of dead a)

        a' : ℕ
        a' = flip (node dead u) a

        x : ℕ
        x = own' 0 b a

        y : ℕ
        y = origin' b a

        z : ℕ
        z = across' u b a' (origin' b a')

        go : Dec (class_of dead a ≡ rank_class dead v) → Dec (class_of dead a ≡ 0)
            → cond (eqb (class_of dead a) (rank_class dead v)) x (cond (eqb (class_of dead a) 0) y z) ≡ at 0 b a
        go (yes e) f = cond_equal x (cond (eqb (class_of dead a) 0) y z) (class_of dead a) (rank_class dead v) e ∙ own_first b a (sum_of_lem v a k e)
        go (no d) (yes f) =
            cond_unequal x (cond (eqb (class_of dead a) 0) y z) (class_of dead a) (rank_class dead v) d
            ∙ cond_equal y z (class_of dead a) 0 f ∙ origin_gives a k f
        go (no d) (no f) =
            cond_unequal x (cond (eqb (class_of dead a) 0) y z) (class_of dead a) (rank_class dead v) d
            ∙ cond_unequal y z (class_of dead a) 0 f
            ∙ across_gives u b a' (origin' b a') r.below (sum_of_lem u a' k' (down ∙ sym r.class)) (origin_gives a' k' down)
            ∙ ap₂ (λ w m. at w b m) r.partnered (flip_flip (node dead u) a)
          where
            pos : 1 ≤ class_of dead a
            pos = omega arith

            r : Rank dead u 0 0
            r = turning_rank_lem dead (class_of dead a) pos (class_le dead a)

            k' : a' < 2 ^ s.n
            k' = flip_node_lt D u a r.below k

            down : class_of dead a' ≡ 0
            down = class_turned D (class_of dead a) a pos (class_le dead a) ∙ xor_self (class_of dead a)

    layer_gives : (w a : ℕ) → 1 ≤ w → w < batch dead → a < 2 ^ s.n → layer' w b a ≡ at w b a
    unfolding layer
    layer_gives w a h m k =
        across_gives u b a' (layer0' b a') r.below
        (sum_of_lem u a' k' (partner_keeps D u a r.below (λ e. omega (arith, r.partnered)) ∙ sym r.class)) (layer0_gives a' k')
        ∙ ap₂ (λ w m. at w b m) r.partnered (flip_flip (node dead u) a)
      where
        u : ℕ
        u = rank_at dead (class_of dead a) w

        a' : ℕ
        a' = flip (node dead u) a

        r : Rank dead u (class_of dead a) w
        r = rank_at_lem dead (class_of dead a) w h m (class_le dead a)

        k' : a' < 2 ^ s.n
        k' = flip_node_lt D u a r.below k

    symbol_of_gives : (w a : ℕ) → w < batch dead → a < 2 ^ s.n → symbol_of c s dead v pairs received w b a ≡ at w b a
    unfolding symbol_of
    symbol_of_gives w a m k = go (ℕ_discrete w 0)
      where
        go : Dec (w ≡ 0) → cond (eqb w 0) (layer0' b a) (layer' w b a) ≡ at w b a
        go (yes e) = cond_equal (layer0' b a) (layer' w b a) w 0 e ∙ layer0_gives a k ∙ ap (λ z. at z b a) (sym e)
        go (no e) = cond_unequal (layer0' b a) (layer' w b a) w 0 e ∙ layer_gives w a (omega arith) m k

  contents_at_gives : (place : ℕ) → place < size s → contents_at c s dead v pairs received place ≡ symbol s X (node dead v) place
  unfolding contents_at size at place_of
  contents_at_gives place h =
      symbol_of_gives (place / 2 ^ s.n / batch dead) below (place / 2 ^ s.n % batch dead) (place % 2 ^ s.n) (mod-lt _ (batch_pos dead)) (mod-lt place power)
      ∙ ap (symbol s X (node dead v)) (ap (λ z. z * 2 ^ s.n + place % 2 ^ s.n) (div-add-mod (place / 2 ^ s.n) (batch dead)) ∙ div-add-mod' place (2 ^ s.n))
    where
      power : 0 < 2 ^ s.n
      power = pow_pos s.n

      below : place / 2 ^ s.n / batch dead < s.layers / batch dead
      below =
          (div-lt_iff_lt-mul (batch_pos dead)).1
          (let row : place / 2 ^ s.n < s.layers = (div-lt_iff_lt-mul power).1 h in
          let e = div-add-mod' s.layers (batch dead) in omega (arith, D.whole))

  -- all N symbols of the new node
  pub contents_exact : contents c s dead v pairs received ≡ tabulate (size s) (symbol s X (node dead v))
  unfolding contents
  contents_exact = tabulate_ext (size s) (contents_at c s dead v pairs received) (symbol s X (node dead v)) contents_at_gives
