-- What is added up, in whatever order, and what is solved in the end.
use mathlib.Core.Path.{◌≡◌, refl, sym, ap, ap₂, ◌∙◌}
use mathlib.Core.Bool.{Bool, true, false}
use mathlib.Core.List.{List, [], ◌∷◌}
use Prim.Native.Nat.{ℕ, ◌+◌, ◌-◌, ◌*◌, ◌/◌, ◌%◌, ◌^◌, ◌<◌}
use native.Mathlib.Nat.{mod-lt, mul_comm}
use native.Mathlib.Omega.{arith}
use lib.Arith.{digits_lt, digits_div, digits_mod}
use lib.ListN.{length, get_or, length-replicate, get_or-replicate, length-map}
use Rattle.lists.specs.Lists.{member, position, others, rising}
use Rattle.lists.specs.Sums.{sum_over}
use Rattle.lists.proofs.Tables.{tabulate_length, tabulate_at, tabulate_ext}
use Rattle.lists.proofs.Members.{at_position, rising_below, rising_more}
use Rattle.lists.proofs.Flats.{flat_ext}
use Rattle.lists.proofs.Others.{others_length}
use Rattle.lists.proofs.Sums.{sum_ext, over_sum}
use Rattle.field.specs.Residues.{minus}
use Rattle.field.proofs.Bridge.{minus_mod, solution_ext}
use Rattle.column.specs.Column.{listed_sum, missing, unknowns}
use Rattle.column.proofs.Column.{completed_other}
use Rattle.shape.specs.declared.Shape.{Shape}
use Rattle.code.specs.Code.{Code, more_points}
use Rattle.code.proofs.NodePoints.{more_length, more_at, more_good}
use Rattle.classes.specs.Classes.{node, spot_at, message_size}
use Rattle.classes.specs.Steps.{other_rank, solved, own_pair, own_pairs, exchange_at, exchange, exchange_to, exchanges}
use Rattle.classes.proofs.Dead.{node_below, Accepted, dead_of}
use Rattle.classes.proofs.Placing.{other_is}
use Rattle.arrival.specs.Sums.{equations, kept_size, no_sums, term_at, added_at, added_to, kept_at, unknowns_at, finished_at, finished_pair, finished_pairs, finished_to, finished_exchanges}
use Rattle.arrival.specs.Record.{distinct}
use Rattle.arrival.proofs.Sets.{Within, over_same}

-- ---- the sums

module _ (s : Shape) (dead : List ℕ) where
  -- equation t at sum x is kept
  place_kept : (x t : ℕ) → x < message_size s dead → t < equations s → x * equations s + t < kept_size s dead
  unfolding kept_size
  place_kept x t h l = rw (mul_comm (equations s) (message_size s dead)) (digits_lt h l)

  pub none_length : length (no_sums s dead) ≡ kept_size s dead
  unfolding no_sums
  none_length = length-replicate (kept_size s dead) 0

  pub none_at : (e : ℕ) → e < kept_size s dead → get_or (no_sums s dead) e 0 ≡ 0
  unfolding no_sums
  none_at e h = get_or-replicate (kept_size s dead) e 0 0 h

  pub none_kept : (x t : ℕ) → x < message_size s dead → t < equations s → kept_at s (no_sums s dead) x t ≡ 0
  unfolding kept_at
  none_kept x t h l = none_at (x * equations s + t) (place_kept x t h l)

module _ (c : Code) (s : Shape) (dead : List ℕ) (u helper : ℕ) (message sums : List ℕ) where
  pub added_length : length (added_to c s dead u helper message sums) ≡ kept_size s dead
  unfolding added_to
  added_length = tabulate_length (kept_size s dead) (added_at c s dead u helper message sums)

  at_place : (e : ℕ) → e < kept_size s dead
      → get_or (added_to c s dead u helper message sums) e 0 ≡ (get_or sums e 0 + term_at c s dead u helper message (e / equations s) (e % equations s)) % c.modulus
  unfolding added_to added_at
  at_place e l = tabulate_at (kept_size s dead) (added_at c s dead u helper message sums) e 0 l

  pub added_low : 0 < c.modulus → (e : ℕ) → e < length (added_to c s dead u helper message sums) → get_or (added_to c s dead u helper message sums) e 0 < c.modulus
  added_low o e l = rw (at_place e (rw added_length at l)) (mod-lt _ o)

  pub added_kept : (x t : ℕ) → x < message_size s dead → t < equations s
      → kept_at s (added_to c s dead u helper message sums) x t ≡ (kept_at s sums x t + term_at c s dead u helper message x t) % c.modulus
  unfolding kept_at
  added_kept x t h l =
      at_place (x * equations s + t) (place_kept s dead x t h l)
      ∙ ap₂ (λ a b. (get_or sums (x * equations s + t) 0 + term_at c s dead u helper message a b) % c.modulus) (digits_div x l) (digits_mod x l)

-- ---- every order ends in the first step

-- each known side is what the helpers' messages add up to, in whatever order these stand in a list
abbrev pub Summed : Code → Shape → List ℕ → ℕ → List ℕ → (ℕ → List ℕ) → List ℕ → Type 0
Summed c s dead u order message sums = (x t : ℕ) → x < message_size s dead → t < equations s
    → kept_at s sums x t ≡ sum_over order (λ h. term_at c s dead u h (message h) x t) % c.modulus

module _ (c : Code) (s : Shape) (dead helpers : List ℕ) (A : Accepted c s dead helpers) (u : ℕ) (rank : u < length dead)
    (order : List ℕ) (once : distinct order ≡ true) (known : Within order helpers) (all : length order ≡ length helpers)
    (message : ℕ → List ℕ) (messages : List ℕ)
    (told : (j x : ℕ) → j < length helpers → x < message_size s dead → get_or messages (j * message_size s dead + x) 0 ≡ get_or (message (get_or helpers j 0)) x 0)
    (sums : List ℕ) (summed : Summed c s dead u order message sums) where
  abbrev M : ℕ
  M = message_size s dead

  abbrev r : ℕ
  r = equations s

  abbrev i : ℕ
  i = node dead u

  i_below : node dead u < s.n
  i_below = node_below (dead_of A) u rank

  module _ (x : ℕ) (h : x < message_size s dead) where
    abbrev ps : List ℕ
    ps = more_points c s.n (spot_at s dead u x).a (node dead u)

    long : length ps ≡ s.n + 1
    long = omega (arith, more_length c s.n (spot_at s dead u x).a i)

    up : rising 0 (length ps) helpers ≡ true
    up = rw (more_length c s.n (spot_at s dead u x).a i) (rising_more s.n helpers A.lists.helpers_rising)

    count : length (unknowns ps helpers) ≡ r
    count =
        omega (arith, long, A.lists.helpers_count, others_length (length ps) helpers up, length-map (others (length ps) helpers) (λ j. get_or ps j 0))

    term_at_lem : (t j : ℕ) → j < length helpers
        → term_at c s dead u (get_or helpers j 0) (message (get_or helpers j 0)) x t ≡ get_or ps (get_or helpers j 0) 0 ^ t * get_or messages (j * M + x) 0
    unfolding term_at
    term_at_lem t j g =
        ap₂ (λ p v. p ^ t * v)
        (sym (more_at c s.n (spot_at s dead u x).a i (get_or helpers j 0) (rising_below s.n helpers A.lists.helpers_rising j g)))
        (sym (told j x g h))

    sum_at_lem : (t : ℕ) → t < r → kept_at s sums x t ≡ listed_sum ps helpers (λ j. get_or messages (j * M + x) 0) t % c.modulus
    unfolding listed_sum
    sum_at_lem t l =
        summed x t h l
        ∙ ap (λ k. k % c.modulus) (over_same order helpers _ once known all ∙ over_sum helpers _ ∙ sum_ext (length helpers) _ _ (λ j g. term_at_lem t j g))

    finished_is : (j : ℕ) → j < s.n + 1 → member j helpers ≡ false → finished_at c s dead helpers u sums j x ≡ get_or (solved c s dead helpers u messages x) j 0
    unfolding finished_at unknowns_at solved missing
    finished_is j l e =
        ap₂ (λ ys k. get_or ys (position j (others k helpers)) 0)
        (solution_ext c.modulus (unknowns ps helpers) _ _
        (λ t g. ap (minus c.modulus 0) (sum_at_lem t (omega (arith, count))) ∙ minus_mod c.modulus 0 _))
        (sym long)
        ∙ sym (completed_other c.modulus A.code.prime ps (more_good c s.n A.code (spot_at s dead u x).a i i_below) helpers up
        (λ j. get_or messages (j * M + x) 0) j (omega (arith, long)) e)

  -- neither a dead node nor the entry behind is a helper
  not_helper : (v : ℕ) → v < length dead → member (node dead v) helpers ≡ false
  unfolding node
  not_helper v l = go (member (get_or dead v 0) helpers) refl
    where
      go : (b : Bool) → member (get_or dead v 0) helpers ≡ b → member (get_or dead v 0) helpers ≡ false
      go false e = e
      go true e = let p = at_position helpers (get_or dead v 0) e in absurd (A.lists.apart v (position (get_or dead v 0) helpers) l p.0 (sym p.1))

  beyond : member s.n helpers ≡ false
  beyond = go (member s.n helpers) refl
    where
      go : (b : Bool) → member s.n helpers ≡ b → member s.n helpers ≡ false
      go false e = e
      go true e =
          let v = at_position helpers s.n e in
          absurd (omega (arith, v.1, rising_below s.n helpers A.lists.helpers_rising (position s.n helpers) v.0))

  -- the pairs of document 01's first step
  pub summed_pairs : finished_pairs c s dead helpers u sums ≡ own_pairs c s dead helpers u messages
  unfolding finished_pairs finished_pair own_pairs own_pair
  summed_pairs =
      flat_ext M _ _ (λ x l. ap₂ (λ a b. a ∷ b ∷ []) (finished_is x l i (omega (arith, i_below)) (not_helper u rank)) (finished_is x l s.n (omega arith) beyond))

  -- and its outgoing messages
  pub summed_exchanges : finished_exchanges c s dead helpers u sums ≡ exchanges c s dead helpers u messages
  unfolding finished_exchanges finished_to exchanges exchange_to exchange exchange_at
  summed_exchanges =
      flat_ext (length dead - 1) _ _
      (λ j l. let o = (other_is (length dead) u j rank l).0 in
      tabulate_ext M _ _ (λ x k. finished_is x k (node dead (other_rank u j)) (omega (arith, node_below (dead_of A) (other_rank u j) o)) (not_helper (other_rank u j) o)))
