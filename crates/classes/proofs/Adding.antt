-- Adding the parity equations at the two places of a sum: they become the equations of n + 1 entries, at n + 1 points.
use mathlib.Core.Path.{◌≡◌, refl, sym, ap, ap₂, subst, ◌∙◌}
use mathlib.Core.Logic.{◌≢◌, ◌⊎◌, inl, inr}
use mathlib.Core.Bool.{cond}
use mathlib.Core.List.{List, [], ◌∷◌, ◌++◌}
use Prim.Native.Nat.{ℕ, zero, suc, ◌+◌, ◌*◌, ◌-◌, ◌/◌, ◌%◌, ◌^◌, ◌≤◌, ◌<◌}
use native.Mathlib.Decide.{ℕ_discrete}
use native.Mathlib.Nat.{le_refl, add-mod, mod-lt, mul-add, mul-le-mul_left, mul-div-le, zero-mod}
use native.Mathlib.Omega.{arith}
use lib.Arith.{digits_lt, digits_mod}
use lib.Dec.{eqb}
use lib.ListN.{length, get_or, length-append, get_or-append}
use lib.Seq.{get_or_at}
use Rattle.lists.specs.Lists.{tabulate}
use Rattle.lists.specs.Sums.{sum}
use Rattle.lists.specs.Digits.{flip}
use Rattle.lists.proofs.Tests.{below_or_not, cond_equal, cond_unequal}
use Rattle.lists.proofs.Tables.{tabulate_length, tabulate_at}
use Rattle.field.proofs.Residues.{mul_mod_mod}
use Rattle.column.specs.Column.{parity}
use Rattle.shape.specs.declared.Shape.{Shape}
use Rattle.shape.specs.Shape.{size}
use Rattle.code.specs.Code.{Code, point, more_points, GoodCode}
use Rattle.code.specs.Archive.{symbol, Codeword}
use Rattle.code.proofs.NodePoints.{more_length, more_at, more_behind, point_kept, point_turned}
use Rattle.code.proofs.Equations.{equation_sum}
use Rattle.classes.specs.Classes.{Sum, batch, node, partner, place_of, Spot, spot, spot_at, no_spot, spots, message_size}
use Rattle.classes.proofs.Sizes.{batch_pos}
use Rattle.classes.proofs.Dead.{Dead, flip_node_lt}
use Rattle.classes.proofs.Ranks.{partner_lt}
use Rattle.classes.proofs.Sums.{spots_at, sum_at_all}

-- ---- sums modulo q

add_like : (q a b x y : ℕ) → a % q ≡ b % q → x % q ≡ y % q → (a + x) % q ≡ (b + y) % q
add_like q a b x y e f = add-mod a x q ∙ ap₂ (λ u v. (u + v) % q) e f ∙ sym (add-mod b y q)

-- f is g and h together, but at u, where it is g alone
module _ (q n : ℕ) (f g h : ℕ → ℕ) (u : ℕ) (away : (i : ℕ) → i < n → i ≢ u → f i % q ≡ (g i + h i) % q) (there : f u % q ≡ g u % q) where
  before : (m : ℕ) → m ≤ u → m ≤ n → sum m f % q ≡ (sum m g + sum m h) % q
  unfolding sum
  before zero l k = refl
  before (suc m) l k =
      add_like q (sum m f) (sum m g + sum m h) (f m) (g m + h m) (before m (omega arith) (omega arith)) (away m k (λ e. omega arith))
      ∙ ap (λ z. z % q) (let e : sum m g + sum m h + (g m + h m) ≡ sum m g + g m + (sum m h + h m) = omega arith in e)

  together : (m : ℕ) → u < m → m ≤ n → (sum m f + h u) % q ≡ (sum m g + sum m h) % q
  unfolding sum
  together zero l k = absurd (omega arith)
  together (suc m) l k = go (λ b. together m b (omega arith)) (below_or_not u m)
    where
      go : (u < m → (sum m f + h u) % q ≡ (sum m g + sum m h) % q) → (u < m) ⊎ (m ≤ u) → (sum m f + f m + h u) % q ≡ (sum m g + g m + (sum m h + h m)) % q
      go ih (inl b) =
          ap (λ z. z % q) (let e : sum m f + f m + h u ≡ sum m f + h u + f m = omega arith in e)
          ∙ add_like q (sum m f + h u) (sum m g + sum m h) (f m) (g m + h m) (ih b) (away m k (λ e. omega arith))
          ∙ ap (λ z. z % q) (let e : sum m g + sum m h + (g m + h m) ≡ sum m g + g m + (sum m h + h m) = omega arith in e)
      go ih (inr b) =
          let same : m ≡ u = omega arith in
          let here : (f m + h u) % q ≡ (g m + h m) % q = rw same (add_like q (f u) (g u) (h u) (h u) there refl) in
          ap (λ z. z % q) (let e : sum m f + f m + h u ≡ sum m f + (f m + h u) = omega arith in e)
          ∙ add_like q (sum m f) (sum m g + sum m h) (f m + h u) (g m + h m) (before m b (omega arith)) here
          ∙ ap (λ z. z % q) (let e : sum m g + sum m h + (g m + h m) ≡ sum m g + g m + (sum m h + h m) = omega arith in e)

-- ---- the two places of a sum

-- two places of a node that a sum of node i joins
pub record Joined (s : Shape) (i : ℕ) (p : Spot) : Type 0 where
  pub one_below : p.one < size s
  pub other_below : p.other < size s
  pub one_at : p.one % 2 ^ s.n ≡ p.a
  pub other_at : p.other % 2 ^ s.n ≡ flip i p.a

pub row_below : (layers batch b w : ℕ) → b < layers / batch → w < batch → batch * b + w < layers
row_below layers batch b w h k = omega (arith, mul-le-mul_left batch h, mul-div-le layers batch)

module _ {s : Shape} {dead : List ℕ} (D : Dead s dead) (u : ℕ) (l : u < length dead) where
  spot_joined : (b a : ℕ) → Sum s dead u b a → Joined s (node dead u) (spot s dead u b a)
  unfolding spot place_of size
  spot_joined b a S =
      let f : flip (node dead u) a < 2 ^ s.n = flip_node_lt D u a l S.below in
      record {
        one_below = digits_lt (row_below s.layers (batch dead) b 0 S.batched (batch_pos dead)) S.below;
        other_below = digits_lt (row_below s.layers (batch dead) b (partner dead u) S.batched (partner_lt dead u l)) f;
        one_at = digits_mod (batch dead * b + 0) S.below;
        other_at = digits_mod (batch dead * b + partner dead u) f;
      }

  pub joined : (x : ℕ) → x < message_size s dead → Joined s (node dead u) (spot_at s dead u x)
  unfolding spot_at
  joined x h =
      let found = sum_at_all D u x h in
      subst (Joined s (node dead u))
      (sym (ap (λ y. get_or (spots s dead u) y no_spot) (sym found.place) ∙ spots_at s dead u found.b found.a found.sum no_spot))
      (spot_joined found.b found.a found.sum)

-- ---- the column of sums

-- the sum of node i's two symbols at a spot
unfoldable pub sum_of : Code → Shape → List ℕ → ℕ → Spot → ℕ
sum_of c s X i p = (symbol s X i p.one + symbol s X i p.other) % c.modulus

-- the entries: sums, but for node i its own symbol at the first place
sum_entry : Code → Shape → List ℕ → ℕ → Spot → ℕ → ℕ
sum_entry c s X i p j = cond (eqb j i) (symbol s X j p.one) (sum_of c s X j p)

-- and behind them its own at the other
pub sum_column : Code → Shape → List ℕ → ℕ → Spot → List ℕ
sum_column c s X i p = tabulate s.n (sum_entry c s X i p) ++ symbol s X i p.other ∷ []

module _ (c : Code) (s : Shape) (X : List ℕ) (i : ℕ) (p : Spot) where
  pub sums_length : length (sum_column c s X i p) ≡ suc s.n
  unfolding sum_column
  sums_length = simp (length-append, tabulate_length) (omega arith)

  sums_in : (j : ℕ) → j < s.n → get_or (sum_column c s X i p) j 0 ≡ sum_entry c s X i p j
  unfolding sum_column
  sums_in j h =
      get_or-append (tabulate s.n (sum_entry c s X i p)) (symbol s X i p.other ∷ []) 0 j (rw (tabulate_length s.n (sum_entry c s X i p)) h)
      ∙ tabulate_at s.n (sum_entry c s X i p) j 0 h

  pub sums_sum : (j : ℕ) → j < s.n → j ≢ i → get_or (sum_column c s X i p) j 0 ≡ sum_of c s X j p
  unfolding sum_entry
  sums_sum j h d = sums_in j h ∙ cond_unequal (symbol s X j p.one) (sum_of c s X j p) j i d

  pub sums_one : i < s.n → get_or (sum_column c s X i p) i 0 ≡ symbol s X i p.one
  unfolding sum_entry
  sums_one h = sums_in i h ∙ cond_equal (symbol s X i p.one) (sum_of c s X i p) i i refl

  pub sums_other : get_or (sum_column c s X i p) s.n 0 ≡ symbol s X i p.other
  unfolding sum_column
  sums_other = get_or_at (tabulate s.n (sum_entry c s X i p)) (symbol s X i p.other) [] 0 s.n (tabulate_length s.n (sum_entry c s X i p))

-- of a codeword
module _ (c : Code) (s : Shape) (X : List ℕ) (good : GoodCode c s.n) (W : Codeword c s X) (i : ℕ) (h : i < s.n) (p : Spot) (J : Joined s i p) where
  symbol_below : (j place : ℕ) → j < s.n → place < size s → symbol s X j place < c.modulus
  unfolding symbol
  symbol_below j place l k = W.small (j * size s + place) (rw W.long (digits_lt l k))

  pub sums_below : (j : ℕ) → j < suc s.n → get_or (sum_column c s X i p) j 0 < c.modulus
  unfolding sum_of
  sums_below j l = go (ℕ_discrete j i) (below_or_not j s.n)
    where
      go : Dec (j ≡ i) → (j < s.n) ⊎ (s.n ≤ j) → get_or (sum_column c s X i p) j 0 < c.modulus
      go (yes e) m = rw (e, sums_one c s X i p h) (symbol_below i p.one h J.one_below)
      go (no d) (inl m) = rw (sums_sum c s X i p j m d) (mod-lt _ (let b = symbol_below j p.one m J.one_below in omega arith))
      go (no d) (inr m) = let e : j ≡ s.n = omega arith in rw (e, sums_other c s X i p) (symbol_below i p.other h J.other_below)

  module _ (t : ℕ) where
    f : ℕ → ℕ
    f j = get_or (more_points c s.n p.a i) j 0 ^ t * get_or (sum_column c s X i p) j 0

    g : ℕ → ℕ
    g j = point c p.a j ^ t * symbol s X j p.one

    k : ℕ → ℕ
    k j = point c (flip i p.a) j ^ t * symbol s X j p.other

    away : (j : ℕ) → j < s.n → j ≢ i → f j % c.modulus ≡ (g j + k j) % c.modulus
    unfolding f g k sum_of
    away j l d =
        rw (more_at c s.n p.a i j l, sums_sum c s X i p j l d, point_kept c i j p.a d)
        (mul_mod_mod (point c p.a j ^ t) (symbol s X j p.one + symbol s X j p.other) c.modulus
        ∙ ap (λ z. z % c.modulus) (mul-add (point c p.a j ^ t) (symbol s X j p.one) (symbol s X j p.other)))

    there : f i % c.modulus ≡ g i % c.modulus
    unfolding f g
    there = rw (more_at c s.n p.a i i h, sums_one c s X i p h)

    behind : f s.n ≡ k i
    unfolding f k
    behind = rw (more_behind c s.n p.a i h, sums_other c s X i p, point_turned c s.n good i p.a h)

    -- the column of sums meets the equations of its n + 1 points
    pub sums_met : t < s.n - s.k → parity c.modulus (more_points c s.n p.a i) (sum_column c s X i p) t ≡ 0
    unfolding parity f g k sum
    sums_met l =
        rw (more_length c s.n p.a i)
        (ap (λ z. (sum s.n f + z) % c.modulus) behind
        ∙ together c.modulus s.n f g k i away there s.n h (le_refl s.n)
        ∙ add-mod (sum s.n g) (sum s.n k) c.modulus
        ∙ ap₂ (λ x y. (x + y) % c.modulus)
        (sym (equation_sum c s X p.one p.a t J.one_at) ∙ W.met p.one t J.one_below l)
        (sym (equation_sum c s X p.other (flip i p.a) t J.other_at) ∙ W.met p.other t J.other_below l)
        ∙ zero-mod c.modulus)
