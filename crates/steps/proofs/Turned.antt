-- The sums of a batch by the members of a rank's class: member x turned is a place of sum x. What the loops over the batches leave.
use mathlib.Core.Path.{◌≡◌, refl, sym, ap, ap₂, ◌∙◌}
use mathlib.Core.Logic.{◌⊎◌, inl, inr}
use mathlib.Core.Bool.{true}
use mathlib.Core.List.{List}
use Prim.Native.Nat.{ℕ, zero, suc, ◌+◌, ◌*◌, ◌-◌, ◌/◌, ◌%◌, ◌^◌, ◌≤◌, ◌<◌}
use native.Mathlib.Nat.{mul-one, mul-zero, div-add-mod', mod-lt, div-lt_iff_lt-mul, mul-le-mul}
use native.Mathlib.Omega.{arith}
use borrow.Author.Tests.{eqb-true}
use lib.Arith.{digits_lt}
use lib.Bits.{bit_xor, xor_zero_l, xor_block}
use lib.Dec.{eqb}
use lib.ListN.{length, get_or, take, drop, length-take, get_or-eq_default}
use lib.Pow.{pow-lt}
use lib.Seq.{ext_get_or, get_or-take}
use Rattle.lists.specs.Lists.{tabulate, range, piece, element}
use Rattle.lists.specs.Digits.{flip}
use Rattle.lists.proofs.Tests.{below_or_not}
use Rattle.lists.proofs.Tables.{is_tabulate, tabulate_at, range_length}
use Rattle.lists.proofs.Flats.{piece_at, piece_length}
use Rattle.lists.proofs.Xors.{flip_xor}
use Rattle.field.specs.Residues.{minus}
use Rattle.shape.specs.declared.Shape.{Shape}
use Rattle.shape.specs.Shape.{most_nodes, size}
use Rattle.code.specs.Code.{Code}
use Rattle.classes.specs.declared.Layout.{Layout}
use Rattle.classes.specs.Classes.{top, node, rank_class, partner, members, spot, Sum, sum_at, sum_place, message_size}
use Rattle.classes.specs.Steps.{added, helper_message}
use Rattle.classes.specs.Layout.{Ready, Fronted}
use Rattle.classes.proofs.Sizes.{batch_pos}
use Rattle.classes.proofs.Dead.{node_below, flip_node_lt}
use Rattle.classes.proofs.Ranks.{partner_lt, rank_class_le}
use Rattle.classes.proofs.Counts.{message_is}
use Rattle.classes.proofs.Sums.{member_lt, member_at, sum_at_is, sum_at_all}
use Rattle.classes.proofs.Layouts.{ready_dead, bounded, placed, share_high}
use Rattle.classes.proofs.Messages.{message_at, message_table, spot_number}
use Rattle.classes.proofs.Members.{member_is, member_sum, members_few, one_class}
use Rattle.steps.specs.Storing.{sum_symbol, Paired, LowAt, Crossed}
use Rattle.batches.specs.Batches.{turned, Apart, added_in, PairedIn, LowNear, left_in, Stored}
use Rattle.lists.proofs.Parts.{row_within, piece_part}
use Rattle.shape.proofs.Accepted.{most_size}
use Rattle.batches.proofs.Batches.{turned_is, turned_none}
use Rattle.steps.proofs.Pieces.{Pieces}
use Rattle.steps.proofs.Storing.{sum_first, sum_other, sums_own, sums_apart}

-- above the bits of a, an exclusive or adds
turned_block : (n w i a : ℕ) → a < 2 ^ n → i < n → bit_xor a (w * 2 ^ n + 2 ^ i) ≡ w * 2 ^ n + flip i a
turned_block n w i a h l =
    let z : a ≡ 0 * 2 ^ n + a = omega arith in
    ap (λ y. bit_xor y (w * 2 ^ n + 2 ^ i)) z ∙ xor_block n 0 w a (2 ^ i) h (pow-lt l) ∙ ap₂ (λ y t. y * 2 ^ n + t) (xor_zero_l w) (flip_xor i a)

regroup : (B b w P a : ℕ) → b * (B * P) + (w * P + a) ≡ (B * b + w) * P + a
regroup B b w P a = omega arith

-- a rank's class, its members in full, and what turns a first place into the other
abbrev pub own : Shape → List ℕ → ℕ → List ℕ
own s dead u = members dead (rank_class dead u) (2 ^ s.n)

unfoldable pub turn_of : Shape → List ℕ → ℕ → ℕ
turn_of s dead u = partner dead u * 2 ^ s.n + 2 ^ node dead u

pub turn_is : (s : Shape) (dead : List ℕ) (u : ℕ) → partner dead u * 2 ^ s.n + 2 ^ node dead u ≡ turn_of s dead u
unfolding turn_of
turn_is s dead u = refl

-- the first elements of the table are the members
pub table_front : (dead : List ℕ) (c n count : ℕ) (table : List ℕ) → Fronted dead c n table → count ≡ length (members dead c (2 ^ n)) → count ≤ length table → take count table ≡ members dead c (2 ^ n)
table_front dead c n count table L e h =
    ext_get_or 0 (take count table) (members dead c (2 ^ n)) (long ∙ e)
    (λ x k. let l : x < count = omega (arith, long) in get_or-take count table x 0 l ∙ L.each x (omega arith))
  where
    long : length (take count table) ≡ count
    long = simp length-take (omega arith)

module _ {dead : List ℕ} {g : Layout} (R : Ready dead g) (u : ℕ) (l : u < length dead) where
  abbrev s : Shape
  s = g.shape

  abbrev M : List ℕ
  M = own g.shape dead u

  abbrev T : ℕ
  T = turn_of g.shape dead u

  abbrev block : ℕ
  block = g.batch * g.places

  module _ (b x : ℕ) (h : b < g.batches) (k : x < length (own g.shape dead u)) where
    pub sum_of_lem : Sum g.shape dead u b (get_or (own g.shape dead u) x 0)
    sum_of_lem = member_sum s dead u b x (rw R.batches_is at h) k

    -- the place `which` of the sum
    pub turned_place : (which : ℕ) → which < 2
        → (turned (own g.shape dead u) (turn_of g.shape dead u * which) x < g.batch * g.places)
        × (b * (g.batch * g.places) + turned (own g.shape dead u) (turn_of g.shape dead u * which) x ≡ sum_place g.shape dead u which b (get_or (own g.shape dead u) x 0))
    turned_place zero t =
        let a = get_or M x 0 in
        let e : turned M (T * 0) x ≡ 0 * g.places + a = ap (λ z. turned M z x) (mul-zero T) ∙ turned_none M x ∙ omega arith in
        let low : a < g.places = rw R.places_is sum_of_lem.below in
        let p : 0 < g.batch = rw R.batch_is (batch_pos dead) in (
          rw e (digits_lt p low),
          rw e (regroup g.batch b 0 g.places a ∙ (placed R 0 b a p h low).1 ∙ sym (sum_first s dead u b a)),
        )
    turned_place (suc zero) t =
        let a = get_or M x 0 in
        let i = node dead u in
        let D = ready_dead R in
        let e : turned M (T * 1) x ≡ partner dead u * g.places + flip i a =
        ap (λ z. turned M z x) (mul-one T ∙ sym (turn_is s dead u)) ∙ turned_is M (partner dead u * 2 ^ s.n + 2 ^ i) x
        ∙ turned_block s.n (partner dead u) i a sum_of_lem.below (node_below D u l) ∙ ap (λ z. partner dead u * z + flip i a) (sym R.places_is) in
        let low : flip i a < g.places = rw R.places_is (flip_node_lt D u a l sum_of_lem.below) in
        let p : partner dead u < g.batch = rw R.batch_is (partner_lt dead u l) in (
          rw e (digits_lt p low),
          rw e (regroup g.batch b (partner dead u) g.places (flip i a) ∙ (placed R (partner dead u) b (flip i a) p h low).1 ∙ sym (sum_other s dead u b a)),
        )
    turned_place (suc (suc w)) t = absurd (omega arith)

  pub apart_in : (b : ℕ) → b < g.batches → (which : ℕ) → which < 2
      → Apart (own g.shape dead u) (turn_of g.shape dead u * (1 - which)) (turn_of g.shape dead u * which) (g.batch * g.places)
  apart_in b h which t = record {
    near_low = λ x k. (turned_place b x h k (1 - which) (omega arith)).0;
    far_low = λ x k. (turned_place b x h k which t).0;
    own = λ x y k m e.
        let q = sums_own (ready_dead R) u l b (get_or M x 0) b (get_or M y 0) (sum_of_lem b x h k) (sum_of_lem b y h m) which t
        (sym (turned_place b x h k which t).1 ∙ ap (λ z. b * block + z) e ∙ (turned_place b y h m which t).1) in
        sym (member_is dead (rank_class dead u) (2 ^ s.n) x k).2 ∙ ap (λ z. length (members dead (rank_class dead u) z)) q.1
        ∙ (member_is dead (rank_class dead u) (2 ^ s.n) y m).2;
    apart = λ x y k m e.
        sums_apart (ready_dead R) u l b (get_or M x 0) b (get_or M y 0) (sum_of_lem b x h k) (sum_of_lem b y h m) which t
        (sym (turned_place b x h k (1 - which) (omega arith)).1 ∙ ap (λ z. b * block + z) e ∙ (turned_place b y h m which t).1);
  }

  pub low_in : (q b : ℕ) → b < g.batches → (which : ℕ) → which < 2 → (symbols : List ℕ) → LowAt q g.shape dead u which symbols
      → LowNear q (own g.shape dead u) (turn_of g.shape dead u * which) (piece (g.batch * g.places) b symbols)
  unfolding sum_symbol
  low_in q b h which t symbols L = record {
    each = λ x k.
        let p = turned_place b x h k which t in
        rw (piece_at block b symbols (turned M (T * which) x) 0 p.0 ∙ ap (λ z. get_or symbols z 0) p.1) (L.each b (get_or M x 0) (sum_of_lem b x h k));
  }

  -- a sum by its batch and its number in the class
  record At (b a : ℕ) : Type 0 where
    x : ℕ
    batched : b < g.batches
    below : x < length (own g.shape dead u)
    is : get_or (own g.shape dead u) x 0 ≡ a
    number : sum_at g.shape dead u b a ≡ b * length (own g.shape dead u) + x

  at : (b a : ℕ) → Sum g.shape dead u b a → At b a
  at b a S = record {
    x = length (members dead (rank_class dead u) a);
    batched = rw R.batches_is S.batched;
    below = member_lt dead (rank_class dead u) (2 ^ s.n) a S.below S.inside;
    is = member_at dead (rank_class dead u) (2 ^ s.n) a 0 S.below S.inside;
    number = sum_at_is s dead u b a;
  }

  -- a symbol of a node is one of its batch
  in_batch : (b a which : ℕ) (A : At b a) → which < 2 → (symbols : List ℕ)
      → get_or (piece (g.batch * g.places) b symbols) (turned (own g.shape dead u) (turn_of g.shape dead u * which) A.x) 0 ≡ sum_symbol g.shape dead u which b a symbols
  unfolding sum_symbol
  in_batch b a which A t symbols =
      let p = turned_place b A.x A.batched A.below which t in
      piece_at block b symbols (turned M (T * which) A.x) 0 p.0 ∙ ap (λ z. get_or symbols z 0) (p.1 ∙ ap (sum_place s dead u which b) A.is)

  first_in : (b a : ℕ) (A : At b a) (symbols : List ℕ) → get_or (piece (g.batch * g.places) b symbols) (turned (own g.shape dead u) 0 A.x) 0 ≡ sum_symbol g.shape dead u 0 b a symbols
  first_in b a A symbols = ap (λ z. get_or (piece block b symbols) (turned M z A.x) 0) (sym (mul-zero T)) ∙ in_batch b a 0 A (omega arith) symbols

  other_in : (b a : ℕ) (A : At b a) (symbols : List ℕ)
      → get_or (piece (g.batch * g.places) b symbols) (turned (own g.shape dead u) (turn_of g.shape dead u) A.x) 0 ≡ sum_symbol g.shape dead u 1 b a symbols
  other_in b a A symbols = ap (λ z. get_or (piece block b symbols) (turned M z A.x) 0) (sym (mul-one T)) ∙ in_batch b a 1 A (omega arith) symbols

-- what a batch of a message, of own pairs and of a crossing is
abbrev pub BatchAdded : Code → List ℕ → ℕ → ℕ → List ℕ → ℕ → List ℕ → List ℕ → Type 0
BatchAdded c members turn block symbols i before after = after ≡ tabulate (length members) (added_in c members turn (piece block i symbols))

abbrev pub BatchPaired : List ℕ → ℕ → List ℕ → ℕ → List ℕ → List ℕ → Type 0
BatchPaired members turn pairs i before after = PairedIn members turn (piece (length members * 2) i pairs) (length members) after

abbrev pub BatchCrossed : Code → List ℕ → ℕ → ℕ → List ℕ → ℕ → List ℕ → List ℕ → Type 0
BatchCrossed c members near far sums i before after = Stored (length members) (turned members far) (left_in c members near (piece (length members) i sums) before) before after

module _ {dead : List ℕ} {g : Layout} (R : Ready dead g) (u : ℕ) (l : u < length dead) where
  abbrev m : List ℕ
  m = own g.shape dead u

  abbrev t : ℕ
  t = turn_of g.shape dead u

  abbrev size_of : ℕ
  size_of = g.batch * g.places

  pub message_all : (c : Code) (symbols old now : List ℕ) → length now ≡ message_size g.shape dead
      → Pieces g.batches (length (own g.shape dead u)) (BatchAdded c (own g.shape dead u) (turn_of g.shape dead u) (g.batch * g.places) symbols) g.batches old now
      → now ≡ helper_message c g.shape dead u symbols
  unfolding message_at added added_in sum_symbol sum_place spot
  message_all c symbols old now long P =
      is_tabulate now (message_size g.shape dead) (message_at c g.shape dead u symbols) 0 long each ∙ sym (message_table c (ready_dead R) u symbols)
    where
      each : (i : ℕ) → i < message_size g.shape dead → get_or now i 0 ≡ message_at c g.shape dead u symbols i
      each i h =
          let S = sum_at_all (ready_dead R) u i h in
          let A = at R u l S.b S.a S.sum in
          ap (λ z. get_or now z 0) (sym S.place ∙ A.number) ∙ sym (piece_at (length m) S.b now A.x 0 A.below)
          ∙ ap (λ z. get_or z A.x 0) (P.done S.b A.batched) ∙ tabulate_at (length m) (added_in c m t (piece size_of S.b symbols)) A.x 0 A.below
          ∙ ap₂ (λ y z. (y + z) % c.modulus) (first_in R u l S.b S.a A symbols) (other_in R u l S.b S.a A symbols)
          ∙ sym (ap (added c symbols) (spot_number g.shape dead u S.b S.a i S.sum S.place))

  pub paired_all : (pairs old now : List ℕ) → length now ≡ size g.shape
      → Pieces g.batches (g.batch * g.places) (BatchPaired (own g.shape dead u) (turn_of g.shape dead u) pairs) g.batches old now
      → Paired g.shape dead u pairs now
  paired_all pairs old now long P = record {
    long = long;
    one = λ b a S. let A = at R u l b a S in sym (first_in R u l b a A now) ∙ (P.done b A.batched).one A.x A.below ∙ pair b a A 0 (omega arith);
    other = λ b a S. let A = at R u l b a S in sym (other_in R u l b a A now) ∙ (P.done b A.batched).other A.x A.below ∙ pair b a A 1 (omega arith);
  }
    where
      pair : (b a : ℕ) (A : At R u l b a) (w : ℕ) → w < 2 → get_or (piece (length m * 2) b pairs) (A.x * 2 + w) 0 ≡ get_or pairs (sum_at g.shape dead u b a * 2 + w) 0
      pair b a A w h =
          piece_at (length m * 2) b pairs (A.x * 2 + w) 0 (omega (arith, A.below))
          ∙ ap (λ z. get_or pairs z 0) (let e : b * (length m * 2) + (A.x * 2 + w) ≡ (b * length m + A.x) * 2 + w = omega arith in e ∙ ap (λ z. z * 2 + w) (sym A.number))

  pub crossed_all : (c : Code) (which : ℕ) → which < 2 → (sums old now : List ℕ) → length old ≡ size g.shape
      → Pieces g.batches (g.batch * g.places) (BatchCrossed c (own g.shape dead u) (turn_of g.shape dead u * (1 - which)) (turn_of g.shape dead u * which) sums) g.batches old now
      → Crossed c g.shape dead u which (element sums) old now
  unfolding left_in
  crossed_all c which h sums old now long P = record {
    long = P.long;
    each = λ b a S.
        let A = at R u l b a S in
        sym (in_batch R u l b a which A h now) ∙ (P.done b A.batched).each A.x A.below
        ∙ ap₂ (minus c.modulus) (piece_at (length m) b sums A.x 0 A.below ∙ ap (element sums) (sym A.number)) (in_batch R u l b a (1 - which) A (omega arith) old);
    rest = λ y k. go y k (below_or_not y (length old));
  }
    where
      whole : length old ≡ g.batches * size_of
      whole = long ∙ omega (arith, (bounded R).size_is)

      pos : 0 < size_of
      pos = omega (arith, mul-le-mul {n₁ = 1} {m₁ = 1} {n₂ = g.batch} {m₂ = g.places} (bounded R).batch_low (bounded R).places_low)

      go : (y : ℕ) → ((b a : ℕ) → Sum g.shape dead u b a → sum_place g.shape dead u which b a ≡ y → ⊥) → (y < length old) ⊎ (length old ≤ y) → get_or now y 0 ≡ get_or old y 0
      go y k (inr z) = get_or-eq_default now 0 (rw P.long z) ∙ sym (get_or-eq_default old 0 z)
      go y k (inl z) =
          let b = y / size_of in
          let j = y % size_of in
          let low : b < g.batches = (div-lt_iff_lt-mul pos).1 (rw whole at z) in
          let near : j < size_of = mod-lt y pos in
          let e : b * size_of + j ≡ y = div-add-mod' y size_of in
          ap (λ i. get_or now i 0) (sym e) ∙ sym (piece_at size_of b now j 0 near)
          ∙ (P.done b low).rest j (λ x q d. k b (get_or m x 0) (sum_of_lem R u l b x low q) (sym (turned_place R u l b x low q which h).1 ∙ ap (λ i. b * size_of + i) d ∙ e))
          ∙ piece_at size_of b old j 0 near ∙ ap (λ i. get_or old i 0) e

-- the table of a rank, as the loops have it
pub record Tabled (dead : List ℕ) (g : Layout) (u : ℕ) (table : List ℕ) (count turn : ℕ) : Type 0 where
  pub front : take count table ≡ own g.shape dead u
  pub count_is : count ≡ length (own g.shape dead u)
  pub turn_is : turn ≡ turn_of g.shape dead u
  pub few : count ≤ length table
  pub high : count ≤ 2 ^ most_nodes

pub tabled : {dead : List ℕ} {g : Layout} → Ready dead g → (u class count turn : ℕ) (table : List ℕ) → class ≡ rank_class dead u → Fronted dead class g.shape.n table → g.places ≤ length table
    → ((c : ℕ) → c ≤ top dead → count ≡ length (members dead c (2 ^ g.shape.n))) → turn ≡ partner dead u * 2 ^ g.shape.n + 2 ^ node dead u → Tabled dead g u table count turn
tabled {dead} {g} R u class count turn table e L room n t =
    let k = n (rank_class dead u) (rank_class_le dead u) in
    let few : count ≤ g.places = omega (arith, k, members_few dead (rank_class dead u) (2 ^ g.shape.n), R.places_is) in
    record {
      front = table_front dead (rank_class dead u) g.shape.n count table (rw e at L) k (omega arith);
      count_is = k;
      turn_is = t ∙ turn_is g.shape dead u;
      few = omega arith;
      high = omega (arith, (bounded R).places_high);
    }

-- a turn, or none, is no more than the layers' places
-- where there is one class, every a is a member
pub every : {dead : List ℕ} {g : Layout} → Ready dead g → {u : ℕ} {table : List ℕ} {count turn : ℕ} → Tabled dead g u table count turn → eqb g.top 0 ≡ true
    → take count table ≡ range 0 (length (take count table))
every {dead} {g} R {u} {table} {count} K e =
    let n : top dead ≡ 0 = sym R.top_is ∙ eqb-true g.top 0 e in
    let z : rank_class dead u ≡ 0 = omega (arith, rank_class_le dead u) in
    let w : take count table ≡ range 0 (2 ^ g.shape.n) = K.front ∙ ap (λ c. members dead c (2 ^ g.shape.n)) z ∙ one_class dead n (2 ^ g.shape.n) in
    w ∙ ap (range 0) (sym (range_length 0 (2 ^ g.shape.n)) ∙ ap length (sym w))

pub turn_high : {dead : List ℕ} {g : Layout} → Ready dead g → (u turn which : ℕ) → u < length dead → turn ≡ partner dead u * 2 ^ g.shape.n + 2 ^ node dead u → which < 2 → turn * which ≤ (most_nodes + 1) * 2 ^ most_nodes
turn_high {dead} {g} R u turn which l e h =
    let D = ready_dead R in
    let b = bounded R in
    let p : 2 ^ g.shape.n ≤ 2 ^ most_nodes = omega (arith, R.places_is, b.places_high) in
    let q : partner dead u ≤ most_nodes = omega (arith, partner_lt dead u l, R.batch_is, b.batch_high) in
    let t : turn ≤ (most_nodes + 1) * 2 ^ most_nodes = omega (arith, e, mul-le-mul q p, pow-lt (node_below D u l), p) in
    omega (arith, mul-le-mul {n₁ = turn} {m₁ = which} {n₂ = (most_nodes + 1) * 2 ^ most_nodes} {m₂ = 1} t (omega arith))

-- the parts of the buffers that belong to batch b
pub record Room (dead : List ℕ) (g : Layout) (b count : ℕ) : Type 0 where
  pub block : b * (g.batch * g.places) + g.batch * g.places ≤ size g.shape
  pub sums : b * count + count ≤ message_size g.shape dead
  pub size_high : size g.shape ≤ most_size
  pub share_high : message_size g.shape dead ≤ most_size

module _ {dead : List ℕ} {g : Layout} (R : Ready dead g) (u : ℕ) (l : u < length dead) (table : List ℕ) (count turn : ℕ) (K : Tabled dead g u table count turn) where
  pub blocks_are : g.batches * (g.batch * g.places) ≡ size g.shape
  blocks_are = omega (arith, (bounded R).size_is)

  pub sums_are : g.batches * count ≡ message_size g.shape dead
  sums_are = ap₂ ◌*◌ R.batches_is K.count_is ∙ sym (message_is (ready_dead R) (rank_class dead u) (rank_class_le dead u))

  pub room : (b : ℕ) → b < g.batches → Room dead g b count
  room b h = record {
    block = rw (← blocks_are) (row_within g.batches (g.batch * g.places) b h);
    sums = rw (← sums_are) (row_within g.batches count b h);
    size_high = (bounded R).size_high;
    share_high = share_high R;
  }

  -- the table's part has the members
  pub listed : length (take count table) ≡ count
  listed = ap length K.front ∙ sym K.count_is

  -- as they are lent: the symbols of a batch, and its sums, one for each member
  pub block_long : (b : ℕ) → b < g.batches → (symbols : List ℕ) → length symbols ≡ size g.shape
      → length (take (b * (g.batch * g.places) + g.batch * g.places - b * (g.batch * g.places)) (drop (b * (g.batch * g.places)) symbols)) ≡ g.batch * g.places
  block_long b h symbols e = ap length (piece_part (g.batch * g.places) b symbols) ∙ piece_length (g.batch * g.places) b symbols (rw e (room b h).block)

  pub sums_long : (b : ℕ) → b < g.batches → (sums : List ℕ) → length sums ≡ message_size g.shape dead
      → length (take (b * count + count - b * count) (drop (b * count) sums)) ≡ length (take count table)
  sums_long b h sums e = ap length (piece_part count b sums) ∙ piece_length count b sums (rw e (room b h).sums) ∙ sym listed

  pub apart_by : (b : ℕ) → b < g.batches → (which : ℕ) → which < 2 → Apart (take count table) (turn * (1 - which)) (turn * which) (g.batch * g.places)
  apart_by b h which k = rw (K.front, K.turn_is) (apart_in R u l b h which k)

  pub low_by : (q b : ℕ) → b < g.batches → (which : ℕ) → which < 2 → (symbols : List ℕ) → LowAt q g.shape dead u which symbols
      → LowNear q (take count table) (turn * which) (piece (g.batch * g.places) b symbols)
  low_by q b h which k symbols L = rw (K.front, K.turn_is) (low_in R u l q b h which k symbols L)

  pub apart_other : (b : ℕ) → b < g.batches → Apart (take count table) 0 turn (g.batch * g.places)
  apart_other b h = rw (mul-zero, mul-one) at (apart_by b h 1 (omega arith))

  pub apart_first : (b : ℕ) → b < g.batches → Apart (take count table) turn 0 (g.batch * g.places)
  apart_first b h = rw (mul-one, mul-zero) at (apart_by b h 0 (omega arith))

  pub message_done : (c : Code) (symbols old now : List ℕ) → length now ≡ message_size g.shape dead
      → Pieces g.batches count (BatchAdded c (take count table) turn (g.batch * g.places) symbols) g.batches old now → now ≡ helper_message c g.shape dead u symbols
  message_done c symbols old now long P = message_all R u l c symbols old now long (rw (K.front, K.turn_is, K.count_is) at P)

  pub paired_done : (pairs old now : List ℕ) → length now ≡ size g.shape
      → Pieces g.batches (g.batch * g.places) (BatchPaired (take count table) turn pairs) g.batches old now → Paired g.shape dead u pairs now
  paired_done pairs old now long P = paired_all R u l pairs old now long (rw (K.front, K.turn_is) at P)

  pub crossed_done : (c : Code) (which : ℕ) → which < 2 → (sums old now : List ℕ) → length old ≡ size g.shape
      → Pieces g.batches (g.batch * g.places) (BatchCrossed c (take count table) (turn * (1 - which)) (turn * which) sums) g.batches old now
      → Crossed c g.shape dead u which (element sums) old now
  crossed_done c which k sums old now long P = crossed_all R u l c which k sums old now long (rw (K.front, K.turn_is) at P)
