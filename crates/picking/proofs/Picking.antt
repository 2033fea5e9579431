-- What is picked are the multipliers.
use mathlib.Core.Path.{◌≡◌, refl, sym, ap, ◌∙◌}
use mathlib.Core.Logic.{◌≢◌}
use mathlib.Core.Bool.{Bool, true, false, cond}
use mathlib.Core.List.{List}
use Prim.Native.Nat.{ℕ, ◌+◌, ◌-◌, ◌*◌, ◌%◌, ◌^◌, ◌<◌, ◌≤◌}
use native.Mathlib.Decide.{ℕ_discrete}
use native.Mathlib.Omega.{arith}
use borrow.Author.Tests.{eqb-true, eqb-false, eq-eqb, ne_eqb}
use lib.Dec.{eqb}
use lib.ListN.{length, get_or}
use Rattle.lists.specs.Lists.{member, rising}
use Rattle.lists.specs.Digits.{bit}
use Rattle.lists.proofs.Members.{rising_below, member_of}
use Rattle.lists.proofs.Flips.{bit_lt}
use Rattle.shape.specs.Shape.{most_nodes}
use Rattle.code.specs.Code.{narrow, base_point, point, points, GoodCode}
use Rattle.code.proofs.NodePoints.{good_fewer, points_length, points_at, points_good}
use Rattle.code.proofs.Narrow.{narrow_good}
use Rattle.rows.specs.Rows.{most_places, Stored}
use Rattle.rows.proofs.Rows.{stored_low}
use Rattle.multipliers.specs.Multipliers.{multiplier}
use Rattle.multipliers.proofs.Multipliers.{multiplier_ext}
use Rattle.multipliers.proofs.Opposites.{multiplier_opposite}
use Rattle.tables.specs.Tables.{MultiplierRow, NodeRows}
use Rattle.patterns.specs.Patterns.{pattern, patterns, Stands}
use Rattle.picking.specs.Picking.{looked_up, looked_at, LookedUp, picked, Pickable}
use Rattle.patterns.proofs.Patterns.{pattern_lt, turned_bit, pattern_turned}

abbrev q : ℕ
q = narrow.modulus

module _ (n : ℕ) (high : n ≤ most_nodes) (a b : ℕ) (list : List ℕ) (up : rising 0 n list ≡ true) (i j : ℕ) (within : i < n) (unlisted : member i list ≡ false)
    (listed : j < length list) where
  -- a point is fixed by a bit
  same_point : (e : ℕ) → e < n → bit e a ≡ bit e b → get_or (points narrow n a) e 0 ≡ get_or (points narrow n b) e 0
  unfolding point
  same_point e h s = points_at narrow n a e h ∙ ap (λ x. cond (eqb x 0) (base_point narrow e) (q - base_point narrow e)) s ∙ sym (points_at narrow n b e h)

  multiplier_by_bits : ((e : ℕ) → e < n → member e list ≡ false → bit e a ≡ bit e b) → bit (get_or list j 0) a ≡ bit (get_or list j 0) b
      → multiplier q (points narrow n a) list i j ≡ multiplier q (points narrow n b) list i j
  multiplier_by_bits others own =
      multiplier_ext q (points narrow n a) (points narrow n b) list i j (points_length narrow n a ∙ sym (points_length narrow n b))
      (rw (points_length narrow n a) within) unlisted
      (λ e k z. let y : e < n = rw (points_length narrow n a) at k in same_point e y (others e y z))
      (same_point (get_or list j 0) (rising_below n list up j listed) own)

  good : GoodCode narrow n
  good = good_fewer narrow most_nodes n high narrow_good

  -- and turns into its opposite with the bit
  point_sum : (e : ℕ) → e < n → bit e a + bit e b ≡ 1 → (point narrow a e + point narrow b e) % q ≡ 0
  unfolding point
  point_sum e h s = go (ℕ_discrete (bit e a) 0)
    where
      low : base_point narrow e < q
      low = good.high e h

      sums : (x y : ℕ) → x + y ≡ q → (x + y) % q ≡ 0
      sums x y z = rw z (omega arith)

      go : Dec (bit e a ≡ 0)
          → (cond (eqb (bit e a) 0) (base_point narrow e) (q - base_point narrow e) + cond (eqb (bit e b) 0) (base_point narrow e) (q - base_point narrow e)) % q ≡ 0
      go (yes z) = rw (eq-eqb _ _ z, ne_eqb (bit e b) 0 (λ d. omega arith)) (sums (base_point narrow e) (q - base_point narrow e) (omega (arith, low)))
      go (no z) = rw (ne_eqb _ _ z, eq-eqb (bit e b) 0 (omega (arith, z))) (sums (q - base_point narrow e) (base_point narrow e) (omega (arith, low)))

  multiplier_by_turned_bits : ((e : ℕ) → e < n → member e list ≡ false → bit e a + bit e b ≡ 1) → bit (get_or list j 0) a + bit (get_or list j 0) b ≡ 1
      → multiplier q (points narrow n a) list i j ≡ multiplier q (points narrow n b) list i j
  multiplier_by_turned_bits others own =
      multiplier_opposite q good.prime (points narrow n a) (points narrow n b) (points_good narrow n good a) (points_good narrow n good b) list
      (rw (points_length narrow n a) up) (rw (points_length narrow n b) up) (points_length narrow n b ∙ sym (points_length narrow n a))
      i (rw (points_length narrow n a) within) unlisted
      (λ e k z. let y : e < n = rw (points_length narrow n a) at k in turned e y (others e y z))
      j (turned (get_or list j 0) (rising_below n list up j listed) own)
    where
      turned : (e : ℕ) → e < n → bit e a + bit e b ≡ 1 → (get_or (points narrow n a) e 0 + get_or (points narrow n b) e 0) % q ≡ 0
      turned e h s = rw (points_at narrow n a e h, points_at narrow n b e h) (point_sum e h s)

module _ (n m a run : ℕ) (list : List ℕ) (marked : List Bool) (picks : List ℕ) (last : ℕ) (source : List ℕ) (w : Pickable n m a run list marked picks last source) where
  module _ (i j t : ℕ) (within : i < m) (unlisted : member i list ≡ false) (listed : j < length list) (inside : t < run) where
    abbrev node : ℕ
    node = get_or list j 0

    below : i < n
    below = omega (arith, w.inside)

    node_below : node < n
    node_below = rising_below n list w.up j listed

    node_marked : get_or marked node false ≡ true
    node_marked = w.marks.each node node_below ∙ member_of list j listed

    -- what the table has for a pattern
    module _ (p : ℕ) (small : p < patterns marked n) where
      held : get_or source ((i * length list + j) * most_places + p) 0 ≡ multiplier q (points narrow n (w.held.each p)) list i j
      held = (w.held.held.each i j within unlisted listed).each p small

      stands : Stands n marked p (w.held.each p)
      stands = w.held.stands p small

    -- that of the place, where the listed node's bit is 0
    plain : bit node (a + t) ≡ 0
        → get_or source ((i * length list + j) * most_places + get_or picks t 0) 0 ≡ multiplier q (points narrow n (a + t)) list i j
    plain e =
        ap (λ p. get_or source ((i * length list + j) * most_places + p) 0) (w.picks_are t inside) ∙ held p small
        ∙ multiplier_by_bits n w.high (w.held.each p) (a + t) list w.up i j below unlisted listed
        (λ x k z. (stands p small).free (a + t) x refl k (w.marks.each x k ∙ z)) ((stands p small).fixed node node_below node_marked ∙ sym e)
      where
        p : ℕ
        p = pattern marked (a + t) n

        small : p < patterns marked n
        small = pattern_lt marked (a + t) n

    -- the opposite one, where it is 1
    opposite : bit node (a + t) ≡ 1
        → get_or source ((i * length list + j) * most_places + (last - get_or picks t 0)) 0 ≡ multiplier q (points narrow n (a + t)) list i j
    opposite e =
        ap (λ p. get_or source ((i * length list + j) * most_places + p) 0) index ∙ held p small
        ∙ multiplier_by_turned_bits n w.high (w.held.each p) (a + t) list w.up i j below unlisted listed
        (λ x k z. ap (λ y. y + bit x (a + t)) ((stands p small).free b x refl k (w.marks.each x k ∙ z)) ∙ bits x k)
        (ap (λ y. y + bit node (a + t)) ((stands p small).fixed node node_below node_marked) ∙ omega (arith, e))
      where
        b : ℕ
        b = 2 ^ n - 1 - (a + t)

        bits : (x : ℕ) → x < n → bit x b + bit x (a + t) ≡ 1
        bits x k = turned_bit n (a + t) x (omega (arith, w.low)) k

        p : ℕ
        p = pattern marked b n

        small : p < patterns marked n
        small = pattern_lt marked b n

        index : last - get_or picks t 0 ≡ p
        index = omega (arith, w.picks_are t inside, w.last_is, pattern_turned marked (a + t) b n bits)

    -- and what is picked
    chosen : get_or source ((i * length list + j) * most_places + looked_at a node picks last t) 0 ≡ multiplier q (points narrow n (a + t)) list i j
    unfolding looked_at looked_up
    chosen = go (eqb (bit node (a + t)) 0) refl
      where
        go : (b : Bool) → eqb (bit node (a + t)) 0 ≡ b
            → get_or source ((i * length list + j) * most_places + cond (eqb (bit node (a + t)) 0) (get_or picks t 0) (last - get_or picks t 0)) 0
            ≡ multiplier q (points narrow n (a + t)) list i j
        go true e = rw e (plain (eqb-true _ _ e))
        go false e = rw e (opposite (let z : bit node (a + t) ≢ 0 = eqb-false _ _ e in omega (arith, z, bit_lt node (a + t))))

  module _ (looked : List ℕ) (v : LookedUp a run list picks last (length list) looked) (i : ℕ) (within : i < m) (u : member i list ≡ false) where
    pub picks_more : (j : ℕ) (before now after : List ℕ) → run ≤ most_places → j < length list → NodeRows n (◌+◌ a) run list i j before now
        → Stored ((i * length list + j) * most_places) run (picked looked (j * most_places) source ((i * length list + j) * most_places)) now after
        → NodeRows n (◌+◌ a) run list i (j + 1) before after
    unfolding picked
    picks_more j before now after few h so_far put = record {
      low = λ l. stored_low q _ run _ now after put (so_far.low l) (λ t g. w.held.held.low.at _);
      kept = λ e l. put.ahead e (omega arith) ∙ so_far.kept e l;
      made = λ x l. go x l (ℕ_discrete x j);
    }
      where
        under : (t : ℕ) → t < run
            → picked looked (j * most_places) source ((i * length list + j) * most_places) t ≡ get_or source ((i * length list + j) * most_places + looked_at a (get_or list j 0) picks last t) 0
        under t g = ap (λ p. get_or source ((i * length list + j) * most_places + p) 0) (v.each j t h g)

        go : (x : ℕ) → x < j + 1 → Dec (x ≡ j) → MultiplierRow n (◌+◌ a) run list after i x
        go x l (no d) = record { each = λ t g. put.ahead _ (omega arith) ∙ (so_far.made x (omega arith)).each t g }
        go x l (yes d) = rw d (record { each = λ t g. put.there t g ∙ under t g ∙ chosen i j t within u h g })

-- ---- a row of patterns more

module _ (a run : ℕ) (list picks : List ℕ) (last : ℕ) (few : run ≤ most_places) (top : last < most_places) (under : (t : ℕ) → t < run → get_or picks t 0 ≤ last) where
  -- none is beyond the last
  looked_low : (node t : ℕ) → t < run → looked_at a node picks last t < most_places
  unfolding looked_at looked_up
  looked_low node t h = go (eqb (bit node (a + t)) 0)
    where
      go : (b : Bool) → cond b (get_or picks t 0) (last - get_or picks t 0) < most_places
      go true = omega (arith, under t h)
      go false = omega arith

  pub looked_more : (j : ℕ) (now after : List ℕ) → LookedUp a run list picks last j now → Stored (j * most_places) run (looked_at a (get_or list j 0) picks last) now after
      → LookedUp a run list picks last (j + 1) after
  looked_more j now after w put = record {
    long = put.long ∙ w.long;
    low = stored_low most_places (j * most_places) run _ now after put w.low (looked_low (get_or list j 0));
    each = λ i t h l. go i t h l (ℕ_discrete i j);
  }
    where
      go : (i t : ℕ) → i < j + 1 → t < run → Dec (i ≡ j) → get_or after (i * most_places + t) 0 ≡ looked_at a (get_or list i 0) picks last t
      go i t h l (yes d) = rw d (put.there t l)
      go i t h l (no d) = put.ahead _ (omega (arith, d)) ∙ w.each i t (omega (arith, d)) l
