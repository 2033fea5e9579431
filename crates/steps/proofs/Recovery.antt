-- The second step in place: rank by rank, each stored at the other places of its sums, every symbol becomes the one that the definition gives.
use mathlib.Core.Path.{◌≡◌, refl, sym, ap, ap₂, subst, ◌∙◌}
use mathlib.Core.Logic.{◌≢◌, ◌⊎◌, inl, inr}
use mathlib.Core.Bool.{Bool, true, false, ◌||◌, cond}
use mathlib.Core.List.{List}
use Prim.Native.Nat.{ℕ, ◌+◌, ◌*◌, ◌-◌, ◌/◌, ◌%◌, ◌^◌, ◌≤◌, ◌<◌}
use native.Mathlib.Decide.{ℕ_discrete}
use native.Mathlib.Nat.{mod-lt, div-add-mod, div-add-mod', div-lt_iff_lt-mul}
use native.Mathlib.Omega.{arith}
use borrow.Author.Tests.{eqb-true, eqb-false}
use lib.Dec.{eqb}
use lib.ListN.{length, get_or}
use lib.Pow.{pow_pos}
use Rattle.lists.specs.Digits.{flip}
use Rattle.lists.proofs.Tests.{neither, cond_equal, cond_unequal}
use Rattle.lists.proofs.Tables.{is_tabulate}
use Rattle.lists.proofs.Flips.{flip_flip}
use Rattle.field.specs.Residues.{minus}
use Rattle.shape.specs.declared.Shape.{Shape}
use Rattle.shape.specs.Shape.{size}
use Rattle.rows.specs.Rows.{Low}
use Rattle.code.specs.Code.{Code}
use Rattle.classes.specs.Classes.{batch, node, class_of, rank_class, partner, turning_rank, rank_at, place_of, Sum, sum_at, sum_place}
use Rattle.classes.specs.Steps.{own, sent, across, origin, layer0, layer, symbol_of, contents_at, contents}
use Rattle.steps.specs.Storing.{sum_symbol, Paired, LowAt, sent_by, Crossed, Begun}
use Rattle.classes.proofs.Sizes.{batch_pos}
use Rattle.classes.proofs.Dead.{Dead, flip_node_lt}
use Rattle.classes.proofs.Ranks.{partner_lt, rank_class_le, turning_rank_lem, rank_zero}
use Rattle.steps.proofs.Providers.{provider, provider_zero, provider_more, Origin, origin_or_not, turned_before, turning_own, provider_lt, Target, target, source}
use Rattle.steps.proofs.Storing.{place_own, sum_first, sum_other, turning}
use Rattle.steps.proofs.Beginning.{turner, turned_place, turned_sum}

-- what stands where a rank's sums were crossed
crossed_each : (c : Code) (s : Shape) (dead : List ℕ) (u which : ℕ) (sums : ℕ → ℕ) (S T : List ℕ) → Crossed c s dead u which sums S T → (b a : ℕ) → Sum s dead u b a
    → get_or T (sum_place s dead u which b a) 0 ≡ minus c.modulus (sums (sum_at s dead u b a)) (get_or S (sum_place s dead u (1 - which) b a) 0)
unfolding sum_symbol
crossed_each c s dead u which sums S T C b a Q = C.each b a Q

-- what is right so far, when the ranks below u are done
abbrev pub Settled : List ℕ → ℕ → ℕ → ℕ → ℕ → Type 0
Settled dead v u w a = ((w ≡ 0) × ((class_of dead a ≡ 0) ⊎ (class_of dead a ≡ rank_class dead v))) ⊎ ((provider dead w a ≡ v) ⊎ (provider dead w a < u))

pub record Known (c : Code) (s : Shape) (dead : List ℕ) (v : ℕ) (pairs received : List ℕ) (u : ℕ) (S : List ℕ) : Type 0 where
  pub long : length S ≡ size s
  pub cells : (w b a : ℕ) → w < batch dead → b < s.layers / batch dead → a < 2 ^ s.n → Settled dead v u w a
      → get_or S (place_of s dead w b a) 0 ≡ symbol_of c s dead v pairs received w b a

either_low : (q : ℕ) (test : Bool) (x y : ℕ) → x < q → y < q → cond test x y < q
either_low q true x y h k = h
either_low q false x y h k = k

-- ---- the definition, by the provider

module _ (c : Code) {s : Shape} {dead : List ℕ} (D : Dead s dead) (v : ℕ) (l : v < length dead) (pairs received : List ℕ) where
  abbrev own' : ℕ → ℕ → ℕ → ℕ
  own' = own c s dead v pairs received

  abbrev sent' : ℕ → ℕ → ℕ → ℕ
  sent' = sent c s dead v pairs received

  abbrev across' : ℕ → ℕ → ℕ → ℕ → ℕ
  across' = across c s dead v pairs received

  abbrev origin' : ℕ → ℕ → ℕ
  origin' = origin c s dead v pairs received

  abbrev layer0' : ℕ → ℕ → ℕ
  layer0' = layer0 c s dead v pairs received

  abbrev symbol_of' : ℕ → ℕ → ℕ → ℕ
  symbol_of' = symbol_of c s dead v pairs received

  sent_is : (u b a : ℕ) → sent_by s dead v received u (sum_at s dead u b a) ≡ sent' u b a
  unfolding sent_by sent
  sent_is u b a = refl

  own_is : (which b a : ℕ) → get_or pairs (sum_at s dead v b a * 2 + which) 0 ≡ own' which b a
  unfolding own
  own_is which b a = refl

  across_own : (u b a first : ℕ) → u ≡ v → across' u b a first ≡ own' 1 b a
  unfolding across
  across_own u b a first e = cond_equal _ _ u v e

  across_sent : (u b a first : ℕ) → u ≢ v → across' u b a first ≡ minus c.modulus (sent' u b a) first
  unfolding across
  across_sent u b a first e = cond_unequal _ _ u v e

  -- layer 0: the own class
  layer0_own : (b a : ℕ) → class_of dead a ≡ rank_class dead v → layer0' b a ≡ own' 0 b a
  unfolding layer0
  layer0_own b a e = cond_equal _ _ (class_of dead a) (rank_class dead v) e

  -- class 0
  layer0_origin : (b a : ℕ) → class_of dead a ≡ 0 → layer0' b a ≡ origin' b a
  unfolding layer0 origin
  layer0_origin b a e = go (ℕ_discrete (rank_class dead v) 0)
    where
      go : Dec (rank_class dead v ≡ 0) → layer0' b a ≡ origin' b a
      go (yes z) = layer0_own b a (e ∙ sym z) ∙ sym (cond_equal _ _ (rank_class dead v) 0 z)
      go (no z) = cond_unequal _ _ (class_of dead a) (rank_class dead v) (λ y. z (sym y ∙ e)) ∙ cond_equal _ _ (class_of dead a) 0 e

  -- what a node that is not of class 0 first gets
  origin_sent : (b a : ℕ) → rank_class dead v ≢ 0
      → origin' b a ≡ minus c.modulus (sent' (turning_rank dead (rank_class dead v)) b a) (own' 0 b (flip (node dead (turning_rank dead (rank_class dead v))) a))
  unfolding origin
  origin_sent b a z = cond_unequal _ _ (rank_class dead v) 0 z

  -- any other class
  layer0_across : (b a u : ℕ) → class_of dead a ≢ 0 → class_of dead a ≢ rank_class dead v → turning_rank dead (class_of dead a) ≡ u
      → layer0' b a ≡ across' u b (flip (node dead u) a) (origin' b (flip (node dead u) a))
  unfolding layer0
  layer0_across b a u d f e =
      cond_unequal _ _ (class_of dead a) (rank_class dead v) f ∙ cond_unequal _ _ (class_of dead a) 0 d
      ∙ ap (λ z. across' z b (flip (node dead z) a) (origin' b (flip (node dead z) a))) e

  symbol_zero : (w b a : ℕ) → w ≡ 0 → symbol_of' w b a ≡ layer0' b a
  unfolding symbol_of
  symbol_zero w b a e = cond_equal _ _ w 0 e

  symbol_layer : (w b a u : ℕ) → w ≢ 0 → rank_at dead (class_of dead a) w ≡ u → symbol_of' w b a ≡ across' u b (flip (node dead u) a) (layer0' b (flip (node dead u) a))
  unfolding symbol_of layer
  symbol_layer w b a u d e =
      cond_unequal _ _ w 0 d ∙ ap (λ z. across' z b (flip (node dead z) a) (layer0' b (flip (node dead z) a))) e

  -- layer 0 has own symbols and differences
  module _ (low : Low c.modulus pairs) where
    own_low : (which b a : ℕ) → own' which b a < c.modulus
    unfolding own
    own_low which b a = low.at (sum_at s dead v b a * 2 + which)

    minus_low : (x y : ℕ) → minus c.modulus x y < c.modulus
    unfolding minus
    minus_low x y = mod-lt (x + (c.modulus - y % c.modulus)) (omega (arith, low.at 0))

    across_low : (u b a first : ℕ) → across' u b a first < c.modulus
    unfolding across
    across_low u b a first = either_low _ (eqb u v) _ _ (own_low 1 b a) (minus_low _ _)

    origin_low : (b a : ℕ) → origin' b a < c.modulus
    unfolding origin
    origin_low b a = either_low _ (eqb (rank_class dead v) 0) _ _ (own_low 0 b a) (minus_low _ _)

    layer0_low : (b a : ℕ) → layer0 c s dead v pairs received b a < c.modulus
    unfolding layer0
    layer0_low b a =
        either_low _ (eqb (class_of dead a) (rank_class dead v)) _ _ (own_low 0 b a)
        (either_low _ (eqb (class_of dead a) 0) _ _ (origin_low b a) (across_low _ _ _ _))

  -- a symbol at the other place of its provider's sum
  symbol_across : (w b a u : ℕ) → w < batch dead → provider dead w a ≡ u → (Origin dead w a → ⊥) → (w ≡ 0 → class_of dead a ≢ rank_class dead v)
      → symbol_of' w b a ≡ across' u b (flip (node dead u) a) (layer0' b (flip (node dead u) a))
  symbol_across w b a u h e o d = go (ℕ_discrete w 0)
    where
      go : Dec (w ≡ 0) → symbol_of' w b a ≡ across' u b (flip (node dead u) a) (layer0' b (flip (node dead u) a))
      go (yes z) =
          let q : turning_rank dead (class_of dead a) ≡ u = sym (provider_zero dead w a z) ∙ e in
          let T = target D u w a h e o in
          let k : partner dead u ≡ 0 = T.layer ∙ z in
          let b0 : u < length dead = rw e at (provider_lt D w a h o) in
          symbol_zero w b a z ∙ layer0_across b a u (λ y. o (z, y)) (d z) q
          ∙ ap (across' u b (flip (node dead u) a)) (sym (layer0_origin b (flip (node dead u) a) (T.inside ∙ (turning dead u b0 k).class)))
      go (no z) = symbol_layer w b a u z (sym (provider_more dead w a z) ∙ e)

  fewer : (u : ℕ) (S : List ℕ) → ((w a : ℕ) → w < batch dead → Settled dead v (u + 1) w a → Settled dead v u w a) → Known c s dead v pairs received u S → Known c s dead v pairs received (u + 1) S
  fewer u S f K = record { long = K.long; cells = λ w b a h k m d. K.cells w b a h k m (f w a h d) }

  -- less than u + 1 is less than u, but for the provider u
  down : (u w a : ℕ) → (provider dead w a ≡ u → Settled dead v u w a) → Settled dead v (u + 1) w a → Settled dead v u w a
  down u w a f (inl z) = inl z
  down u w a f (inr (inl z)) = inr (inl z)
  down u w a f (inr (inr z)) = go (ℕ_discrete (provider dead w a) u)
    where
      go : Dec (provider dead w a ≡ u) → Settled dead v u w a
      go (yes e) = f e
      go (no e) = inr (inr (omega arith))

  -- its own sums were stored before
  pub skip_own : (S : List ℕ) → Known c s dead v pairs received v S → Known c s dead v pairs received (v + 1) S
  skip_own S K = fewer v S (λ w a h. down v w a (λ e. inr (inl e))) K

  -- the rank that turned its own class was done first
  pub skip_turning : (S : List ℕ) (u : ℕ) → rank_class dead v ≢ 0 → u ≡ turning_rank dead (rank_class dead v) → Known c s dead v pairs received u S → Known c s dead v pairs received (u + 1) S
  skip_turning S u z e K = fewer u S (λ w a h. down u w a (λ q. go w a h q (origin_or_not dead w a))) K
    where
      go : (w a : ℕ) → w < batch dead → provider dead w a ≡ u → Origin dead w a ⊎ (Origin dead w a → ⊥) → Settled dead v u w a
      go w a h q (inl o) = inl (o.0, inl o.1)
      go w a h q (inr o) =
          let r = turning_rank_lem dead (rank_class dead v) (omega arith) (rank_class_le dead v) in
          let w0 : w ≡ 0 = sym (target D u w a h q o).layer ∙ ap (partner dead) e ∙ r.partnered in
          inl (w0, inr (turning_own dead (class_of dead a) (rank_class dead v) (pos (ℕ_discrete (class_of dead a) 0) w0) (omega arith) (sym (provider_zero dead w a w0) ∙ q ∙ e)))
        where
          pos : Dec (class_of dead a ≡ 0) → w ≡ 0 → 1 ≤ class_of dead a
          pos (yes y) x = absurd (o (x, y))
          pos (no y) x = omega arith

  -- ---- the steps

  -- a place is the other place of its provider's sum
  ends_at : (u w b a : ℕ) → Target D u w a → sum_place s dead u 1 b (flip (node dead u) a) ≡ place_of s dead w b a
  ends_at u w b a T = sum_other s dead u b (flip (node dead u) a) ∙ ap₂ (λ y z. place_of s dead y b z) T.layer (flip_flip (node dead u) a)

  sum_of_lem : (u w b a : ℕ) → u < length dead → b < s.layers / batch dead → a < 2 ^ s.n → Target D u w a → Sum s dead u b (flip (node dead u) a)
  sum_of_lem u w b a h k m T = record { batched = k; below = flip_node_lt D u a h m; inside = T.inside }

  -- a place at which no sum of rank u ends
  elsewhere : (u w b a : ℕ) → u < length dead → w < batch dead → a < 2 ^ s.n → ((provider dead w a ≡ u) × (Origin dead w a → ⊥) → ⊥)
      → (b' a' : ℕ) → Sum s dead u b' a' → sum_place s dead u 1 b' a' ≡ place_of s dead w b a → ⊥
  elsewhere u w b a h k m other b' a' S e =
      let o = place_own s dead (partner dead u) b' (flip (node dead u) a') w b a (partner_lt dead u h) k (flip_node_lt D u a' h S.below) m (sym (sum_other s dead u b' a') ∙ e) in
      let f = source D u a' h S.inside in
      other (ap₂ (provider dead) (sym o.0) (sym o.2) ∙ f.0, λ z. f.1 (o.0 ∙ z.0, ap (class_of dead) o.2 ∙ z.1))

  -- the layer 0 that rank u's sums are taken across was filled by lower ranks
  first_known : (u : ℕ) (S : List ℕ) → u < length dead → Known c s dead v pairs received u S → (b a : ℕ) → Sum s dead u b a → get_or S (sum_place s dead u 0 b a) 0 ≡ layer0' b a
  first_known u S h K b a Q =
      ap (λ z. get_or S z 0) (sum_first s dead u b a)
      ∙ K.cells 0 b a (batch_pos dead) Q.batched Q.below (settled (ℕ_discrete (rank_class dead u) 0)) ∙ symbol_zero 0 b a refl
    where
      settled : Dec (rank_class dead u ≡ 0) → Settled dead v u 0 a
      settled (yes z) = inl (refl, inl (Q.inside ∙ z))
      settled (no z) = inr (inr (rw (provider_zero dead 0 a refl, Q.inside) (turned_before dead u h z)))

  pub next_low : (u : ℕ) (S : List ℕ) → u < length dead → Low c.modulus pairs → Known c s dead v pairs received u S → LowAt c.modulus s dead u 0 S
  unfolding sum_symbol
  next_low u S h low K = record { each = λ b a Q. rw (first_known u S h K b a Q) (layer0_low low b a) }

  -- rank u's sums are crossed
  pub crossed_next : (u : ℕ) (S T : List ℕ) → u < length dead → u ≢ v → (rank_class dead v ≢ 0 → u ≢ turning_rank dead (rank_class dead v))
      → Known c s dead v pairs received u S → Crossed c s dead u 1 (sent_by s dead v received u) S T → Known c s dead v pairs received (u + 1) T
  crossed_next u S T h d f K C = record { long = C.long ∙ K.long; cells = λ w b a k m n g. go w b a k m n g (ℕ_discrete (provider dead w a) u) (origin_or_not dead w a) }
    where
      kept : (w b a : ℕ) → w < batch dead → b < s.layers / batch dead → a < 2 ^ s.n → ((provider dead w a ≡ u) × (Origin dead w a → ⊥) → ⊥) → Settled dead v u w a
          → get_or T (place_of s dead w b a) 0 ≡ symbol_of' w b a
      kept w b a k m n away g = C.rest (place_of s dead w b a) (elsewhere u w b a h k n away) ∙ K.cells w b a k m n g

      hit : (w b a : ℕ) → w < batch dead → b < s.layers / batch dead → a < 2 ^ s.n → provider dead w a ≡ u → (Origin dead w a → ⊥)
          → get_or T (place_of s dead w b a) 0 ≡ symbol_of' w b a
      hit w b a k m n e o =
          ap (λ z. get_or T z 0) (sym (ends_at u w b a R)) ∙ value
          ∙ ap₂ (minus c.modulus) (sent_is u b a') (first_known u S h K b a' Q)
          ∙ sym (symbol_across w b a u k e o other ∙ across_sent u b a' (layer0' b a') d)
        where
          R : Target D u w a
          R = target D u w a k e o

          a' : ℕ
          a' = flip (node dead u) a

          Q : Sum s dead u b a'
          Q = sum_of_lem u w b a h m n R

          value : get_or T (sum_place s dead u 1 b a') 0 ≡ minus c.modulus (sent_by s dead v received u (sum_at s dead u b a')) (get_or S (sum_place s dead u 0 b a') 0)
          value = crossed_each c s dead u 1 _ S T C b a' Q

          other : w ≡ 0 → class_of dead a ≢ rank_class dead v
          other z y = f (λ x. o (z, y ∙ x)) (sym e ∙ provider_zero dead w a z ∙ ap (turning_rank dead) y)

      go : (w b a : ℕ) → w < batch dead → b < s.layers / batch dead → a < 2 ^ s.n → Settled dead v (u + 1) w a
          → Dec (provider dead w a ≡ u) → Origin dead w a ⊎ (Origin dead w a → ⊥) → get_or T (place_of s dead w b a) 0 ≡ symbol_of' w b a
      go w b a k m n g (yes e) (inr o) = hit w b a k m n e o
      go w b a k m n g (yes e) (inl o) = kept w b a k m n (λ z. z.1 o) (inl (o.0, inl o.1))
      go w b a k m n g (no e) o = kept w b a k m n (λ z. e z.0) (down u w a (λ z. absurd (e z)) g)

  -- ---- the beginning

  module _ (S : List ℕ) (G : Paired s dead v pairs S) where
    own_first : (b a : ℕ) → Sum s dead v b a → get_or S (place_of s dead 0 b a) 0 ≡ own' 0 b a
    unfolding sum_symbol
    own_first b a Q = ap (λ z. get_or S z 0) (sym (sum_first s dead v b a)) ∙ G.one b a Q ∙ own_is 0 b a

    -- where a sum of its own ends
    own_ends : (w b a : ℕ) → w < batch dead → b < s.layers / batch dead → a < 2 ^ s.n → provider dead w a ≡ v → (Origin dead w a → ⊥)
        → get_or S (place_of s dead w b a) 0 ≡ symbol_of' w b a
    unfolding sum_symbol
    own_ends w b a k m n e o =
        let R = target D v w a k e o in
        let a' = flip (node dead v) a in
        ap (λ z. get_or S z 0) (sym (ends_at v w b a R)) ∙ G.other b a' (sum_of_lem v w b a l m n R) ∙ own_is 1 b a'
        ∙ sym (symbol_across w b a v k e o (λ z y. o (z, y ∙ (turning dead v l (R.layer ∙ z)).class)) ∙ across_own v b a' (layer0' b a') refl)

    -- class 0: nothing more is to be got first
    pub begun_own : rank_class dead v ≡ 0 → Known c s dead v pairs received 0 S
    begun_own z = record { long = G.long; cells = λ w b a k m n g. go w b a k m n g (origin_or_not dead w a) }
      where
        zeroth : (w b a : ℕ) → w ≡ 0 → b < s.layers / batch dead → a < 2 ^ s.n → class_of dead a ≡ rank_class dead v → get_or S (place_of s dead w b a) 0 ≡ symbol_of' w b a
        zeroth w b a y m n q =
            ap (λ x. get_or S (place_of s dead x b a) 0) y ∙ own_first b a (record { batched = m; below = n; inside = q })
            ∙ sym (symbol_zero w b a y ∙ layer0_own b a q)

        go : (w b a : ℕ) → w < batch dead → b < s.layers / batch dead → a < 2 ^ s.n → Settled dead v 0 w a → Origin dead w a ⊎ (Origin dead w a → ⊥)
            → get_or S (place_of s dead w b a) 0 ≡ symbol_of' w b a
        go w b a k m n g (inl o) = zeroth w b a o.0 m n (o.1 ∙ sym z)
        go w b a k m n (inl (y, inl q)) (inr o) = absurd (o (y, q))
        go w b a k m n (inl (y, inr q)) (inr o) = zeroth w b a y m n q
        go w b a k m n (inr (inl q)) (inr o) = own_ends w b a k m n q o
        go w b a k m n (inr (inr q)) (inr o) = absurd (omega arith)

    -- another class: "first gets class 0 of layer 0 from its own class c and the message of rank s × (c−1)"
    pub begun_turned : rank_class dead v ≢ 0 → (T : List ℕ)
        → Crossed c s dead (turning_rank dead (rank_class dead v)) 0 (sent_by s dead v received (turning_rank dead (rank_class dead v))) S T → Known c s dead v pairs received 0 T
    begun_turned z T C = record { long = C.long ∙ G.long; cells = λ w b a k m n g. go w b a k m n g (origin_or_not dead w a) }
      where
        u : ℕ
        u = turning_rank dead (rank_class dead v)

        kept : (w b a : ℕ) → w < batch dead → a < 2 ^ s.n → (Origin dead w a → ⊥) → get_or T (place_of s dead w b a) 0 ≡ get_or S (place_of s dead w b a) 0
        kept w b a k n o =
            C.rest (place_of s dead w b a)
            (λ b' a' Q e.
            let p = place_own s dead 0 b' a' w b a (batch_pos dead) k Q.below n (sym (sum_first s dead u b' a') ∙ e) in
            o (sym p.0, ap (class_of dead) (sym p.2) ∙ Q.inside ∙ (turner D v z).class))

        zeroth : (b a : ℕ) → b < s.layers / batch dead → a < 2 ^ s.n → class_of dead a ≡ 0 → get_or T (place_of s dead 0 b a) 0 ≡ layer0' b a
        zeroth b a m n q =
            ap (λ x. get_or T x 0) (sym (sum_first s dead u b a)) ∙ value
            ∙ ap₂ (minus c.modulus) (sent_is u b a) (ap (λ x. get_or S x 0) (turned_place D v z b a) ∙ own_first b (flip (node dead u) a) (turned_sum D v z b a Q))
            ∙ sym (layer0_origin b a q ∙ origin_sent b a z)
          where
            Q : Sum s dead u b a
            Q = record { batched = m; below = n; inside = q ∙ sym (turner D v z).class }

            value : get_or T (sum_place s dead u 0 b a) 0 ≡ minus c.modulus (sent_by s dead v received u (sum_at s dead u b a)) (get_or S (sum_place s dead u 1 b a) 0)
            value = crossed_each c s dead u 0 _ S T C b a Q

        go : (w b a : ℕ) → w < batch dead → b < s.layers / batch dead → a < 2 ^ s.n → Settled dead v 0 w a → Origin dead w a ⊎ (Origin dead w a → ⊥)
            → get_or T (place_of s dead w b a) 0 ≡ symbol_of' w b a
        go w b a k m n g (inl o) = ap (λ x. get_or T (place_of s dead x b a) 0) o.0 ∙ zeroth b a m n o.1 ∙ sym (symbol_zero w b a o.0)
        go w b a k m n (inl (y, inl q)) (inr o) = absurd (o (y, q))
        go w b a k m n (inl (y, inr q)) (inr o) =
            kept w b a k n o ∙ ap (λ x. get_or S (place_of s dead x b a) 0) y ∙ own_first b a (record { batched = m; below = n; inside = q })
            ∙ sym (symbol_zero w b a y ∙ layer0_own b a q)
        go w b a k m n (inr (inl q)) (inr o) = kept w b a k n o ∙ own_ends w b a k m n q o
        go w b a k m n (inr (inr q)) (inr o) = absurd (omega arith)

  -- ---- the end: every place is settled

  pub recovered : (S : List ℕ) → Known c s dead v pairs received (length dead) S → S ≡ contents c s dead v pairs received
  unfolding contents contents_at size place_of
  recovered S K = is_tabulate S (size s) (contents_at c s dead v pairs received) 0 K.long each
    where
      settled : (w a : ℕ) → w < batch dead → Settled dead v (length dead) w a
      settled w a k = go (origin_or_not dead w a)
        where
          go : Origin dead w a ⊎ (Origin dead w a → ⊥) → Settled dead v (length dead) w a
          go (inl o) = inl (o.0, inl o.1)
          go (inr o) = inr (inr (provider_lt D w a k o))

      each : (x : ℕ) → x < size s → get_or S x 0 ≡ contents_at c s dead v pairs received x
      each x h =
          let P = 2 ^ s.n in
          let row : x / P < s.layers = (div-lt_iff_lt-mul (pow_pos s.n)).1 h in
          let b : x / P / batch dead < s.layers / batch dead =
          (div-lt_iff_lt-mul (batch_pos dead)).1 (let e = div-add-mod' s.layers (batch dead) in omega (arith, D.whole)) in
          ap (λ z. get_or S z 0) (sym (ap (λ z. z * P + x % P) (div-add-mod (x / P) (batch dead)) ∙ div-add-mod' x P))
          ∙ K.cells (x / P % batch dead) (x / P / batch dead) (x % P) (mod-lt (x / P) (batch_pos dead)) b (mod-lt x (pow_pos s.n))
          (settled (x / P % batch dead) (x % P) (mod-lt (x / P) (batch_pos dead)))

  -- one new node alone has all its symbols from its own pairs
  pub alone : length dead ≡ 1 → (S : List ℕ) → Paired s dead v pairs S → S ≡ contents c s dead v pairs received
  alone e S G =
      let z : v ≡ 0 = omega arith in
      let K = begun_own S G (ap (rank_class dead) z ∙ rank_zero dead) in
      recovered S (subst (λ u. Known c s dead v pairs received u S) (let q : v + 1 ≡ length dead = omega arith in q) (skip_own S (subst (λ u. Known c s dead v pairs received u S) (sym z) K)))

  -- ---- the loop over the ranks

  either : (a b : Bool) → (a || b) ≡ true → (a ≡ true) ⊎ (b ≡ true)
  either true b e = inl refl
  either false b e = inr e

  module _ (before after : List ℕ) (t : ℕ) (B : Begun c s dead v received before after t) where
    pub begun : Paired s dead v pairs before → Known c s dead v pairs received 0 after
    begun G = go (ℕ_discrete (rank_class dead v) 0)
      where
        go : Dec (rank_class dead v ≡ 0) → Known c s dead v pairs received 0 after
        go (yes z) = rw (B.own z).1 (begun_own before G z)
        go (no z) = begun_turned before G z after (B.turned z).1

    module _ (u : ℕ) (h : u < length dead) (S : List ℕ) (K : Known c s dead v pairs received u S) where
      pub skipped : (eqb u v || eqb u t) ≡ true → Known c s dead v pairs received (u + 1) S
      skipped e = go (either (eqb u v) (eqb u t) e) (ℕ_discrete (rank_class dead v) 0)
        where
          own_rank : u ≡ v → Known c s dead v pairs received (u + 1) S
          own_rank q = subst (λ z. Known c s dead v pairs received (z + 1) S) (sym q) (skip_own S (subst (λ z. Known c s dead v pairs received z S) q K))

          go : (eqb u v ≡ true) ⊎ (eqb u t ≡ true) → Dec (rank_class dead v ≡ 0) → Known c s dead v pairs received (u + 1) S
          go (inl q) z = own_rank (eqb-true u v q)
          go (inr q) (yes z) = absurd (omega (arith, eqb-true u t q, (B.own z).0))
          go (inr q) (no z) = skip_turning S u z (eqb-true u t q ∙ (B.turned z).0) K

      pub crossed : (eqb u v || eqb u t) ≡ false → (T : List ℕ) → Crossed c s dead u 1 (sent_by s dead v received u) S T → Known c s dead v pairs received (u + 1) T
      crossed e T C =
          let w = neither (eqb u v) (eqb u t) e in
          crossed_next u S T h (eqb-false u v w.0) (λ z q. eqb-false u t w.1 (q ∙ sym (B.turned z).0)) K C
