-- The helper's message, and the first and second step of a new node ("Repair"). All are defined for any symbols, codeword or not.
use Rattle.std.specs.Prelude.{cond, List, [], ◌∷◌, map, ℕ, ◌+◌, ◌*◌, ◌-◌, ◌/◌, ◌%◌, ◌^◌, ltb, eqb, length, get_or}
use Rattle.lists.specs.Lists.{tabulate, flat}
use Rattle.lists.specs.Digits.{flip}
use Rattle.field.specs.Residues.{minus}
use Rattle.column.specs.Column.{completed}
use Rattle.shape.specs.declared.Shape.{Shape}
use Rattle.shape.specs.Shape.{size}
use Rattle.code.specs.Code.{Code, more_points}
use Rattle.classes.specs.Classes.{batch, node, class_of, rank_class, turning_rank, rank_at, Spot, spots, spot_at, sum_at, message_size}

-- the sum of a node's two symbols at a spot
unfoldable pub added : Code → List ℕ → Spot → ℕ
added c symbols p = (get_or symbols p.one 0 + get_or symbols p.other 0) % c.modulus

-- the message to rank u of a helper with these N symbols
unfoldable pub helper_message : Code → Shape → List ℕ → ℕ → List ℕ → List ℕ
helper_message c s dead u symbols = map (added c symbols) (spots s dead u)

-- What rank u works out at its sum x from the helpers' messages, one behind the other: "adding the equations at both spots leaves r
-- unknowns". The column has a sum for each node but i_u, for i_u its symbol at the first place, and behind them its symbol at the other.
unfoldable pub solved : Code → Shape → List ℕ → List ℕ → ℕ → List ℕ → ℕ → List ℕ
solved c s dead helpers u messages x =
    completed c.modulus (more_points c s.n (spot_at s dead u x).a (node dead u)) helpers (λ j. get_or messages (j * message_size s dead + x) 0)

-- its own symbols at sum x, "the spot named first in each sum before the other"
unfoldable pub own_pair : Code → Shape → List ℕ → List ℕ → ℕ → List ℕ → ℕ → List ℕ
own_pair c s dead helpers u messages x =
    let column = solved c s dead helpers u messages x in
    get_or column (node dead u) 0 ∷ get_or column s.n 0 ∷ []

-- the first step: "the own pairs (in the order of a helper's message ..)"
unfoldable pub own_pairs : Code → Shape → List ℕ → List ℕ → ℕ → List ℕ → List ℕ
own_pairs c s dead helpers u messages = flat (message_size s dead) (own_pair c s dead helpers u messages)

-- node i's sum x, as rank u works it out
unfoldable pub exchange_at : Code → Shape → List ℕ → List ℕ → ℕ → List ℕ → ℕ → ℕ → ℕ
exchange_at c s dead helpers u messages i x = get_or (solved c s dead helpers u messages x) i 0

-- the first step: rank u's "message of sums, in the same order", to dead node i
unfoldable pub exchange : Code → Shape → List ℕ → List ℕ → ℕ → List ℕ → ℕ → List ℕ
exchange c s dead helpers u messages i = tabulate (message_size s dead) (exchange_at c s dead helpers u messages i)

-- the j-th of the ranks but u, rising
unfoldable pub other_rank : ℕ → ℕ → ℕ
other_rank u j = cond (ltb j u) j (j + 1)

-- the first step's message to the j-th of the other dead nodes
unfoldable pub exchange_to : Code → Shape → List ℕ → List ℕ → ℕ → List ℕ → ℕ → List ℕ
exchange_to c s dead helpers u messages j = exchange c s dead helpers u messages (node dead (other_rank u j))

-- the first step: "for each other dead node (rising) its message of sums"
unfoldable pub exchanges : Code → Shape → List ℕ → List ℕ → ℕ → List ℕ → List ℕ
exchanges c s dead helpers u messages = flat (length dead - 1) (exchange_to c s dead helpers u messages)

-- where rank v stands among the ranks but u ("senders rising")
unfoldable pub place : ℕ → ℕ → ℕ
place u v = cond (ltb v u) v (v - 1)

-- The second step of rank v: "own pairs and the h−1 messages received (senders rising) give all N symbols by subtraction"
module _ (c : Code) (s : Shape) (dead : List ℕ) (v : ℕ) (pairs received : List ℕ) where
  -- its own symbol at the first place (0) or the other (1) of a sum
  unfoldable pub own : ℕ → ℕ → ℕ → ℕ
  own which b a = get_or pairs (sum_at s dead v b a * 2 + which) 0

  -- what rank u sent of a sum
  unfoldable pub sent : ℕ → ℕ → ℕ → ℕ
  sent u b a = get_or received (place v u * message_size s dead + sum_at s dead u b a) 0

  -- the symbol at the other place of a sum of rank u, where `first` stands at its first place
  unfoldable pub across : ℕ → ℕ → ℕ → ℕ → ℕ
  across u b a first = cond (eqb u v) (own 1 b a) (minus c.modulus (sent u b a) first)

  -- Layer 0 of a batch, class 0: "A node whose class in the table is c, not 0, first gets class 0 of layer 0 from its own class c and the
  -- message of rank s × (c−1)."
  unfoldable pub origin : ℕ → ℕ → ℕ
  origin b a =
      let u = turning_rank dead (rank_class dead v) in
      cond (eqb (rank_class dead v) 0) (own 0 b a) (minus c.modulus (sent u b a) (own 0 b (flip (node dead u) a)))

  -- layer 0 of a batch: its own class, class 0, and any other by the rank that turns it into 0
  unfoldable pub layer0 : ℕ → ℕ → ℕ
  layer0 b a =
      let u = turning_rank dead (class_of dead a) in
      let a' = flip (node dead u) a in
      cond (eqb (class_of dead a) (rank_class dead v)) (own 0 b a)
      (cond (eqb (class_of dead a) 0) (origin b a) (across u b a' (origin b a')))

  -- layer w of a batch, w not 0: by the rank with that partner layer and the class of a
  unfoldable pub layer : ℕ → ℕ → ℕ → ℕ
  layer w b a =
      let u = rank_at dead (class_of dead a) w in
      let a' = flip (node dead u) a in
      across u b a' (layer0 b a')

  -- the symbol of layer w of batch b, at a
  unfoldable pub symbol_of : ℕ → ℕ → ℕ → ℕ
  symbol_of w b a = cond (eqb w 0) (layer0 b a) (layer w b a)

  -- the symbol at a place
  unfoldable pub contents_at : ℕ → ℕ
  contents_at place = symbol_of (place / 2 ^ s.n % batch dead) (place / 2 ^ s.n / batch dead) (place % 2 ^ s.n)

  -- all N symbols
  unfoldable pub contents : List ℕ
  contents = tabulate (size s) contents_at
