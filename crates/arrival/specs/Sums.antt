-- The sums that a new node keeps while its helpers' messages arrive, and what it makes of them in the end (document 02 §8).
use Rattle.std.specs.Prelude.{List, [], ◌∷◌, ℕ, ◌+◌, ◌*◌, ◌-◌, ◌/◌, ◌%◌, ◌^◌, length, get_or, replicate}
use Rattle.lists.specs.Lists.{tabulate, flat, position, others}
use Rattle.field.specs.Residues.{minus, solution}
use Rattle.column.specs.Column.{unknowns}
use Rattle.shape.specs.declared.Shape.{Shape}
use Rattle.code.specs.Code.{Code, point, more_points}
use Rattle.classes.specs.Classes.{node, spot_at, message_size}
use Rattle.classes.specs.Steps.{other_rank}

-- the equations that the sums of a message meet: r of them at each
abbrev pub equations : Shape → ℕ
equations s = s.n - s.k

-- a sum is kept for each equation at each sum of a message: that of equation t at sum x stands at x × r + t
unfoldable pub kept_size : Shape → List ℕ → ℕ
kept_size s dead = equations s * message_size s dead

-- "sums begun at zero"
unfoldable pub no_sums : Shape → List ℕ → List ℕ
no_sums s dead = replicate (kept_size s dead) 0

-- what a helper's message has in equation t at sum x of the messages to rank u
unfoldable pub term_at : Code → Shape → List ℕ → ℕ → ℕ → List ℕ → ℕ → ℕ → ℕ
term_at c s dead u helper message x t = point c (spot_at s dead u x).a helper ^ t * get_or message x 0

-- "adding each to the known side of the equations": the sum at a place once a helper's message is added
unfoldable pub added_at : Code → Shape → List ℕ → ℕ → ℕ → List ℕ → List ℕ → ℕ → ℕ
added_at c s dead u helper message sums e = (get_or sums e 0 + term_at c s dead u helper message (e / equations s) (e % equations s)) % c.modulus

-- all sums once a helper's message is added
unfoldable pub added_to : Code → Shape → List ℕ → ℕ → ℕ → List ℕ → List ℕ → List ℕ
added_to c s dead u helper message sums = tabulate (kept_size s dead) (added_at c s dead u helper message sums)

-- ---- finishing

-- the known side of equation t at sum x
unfoldable pub kept_at : Shape → List ℕ → ℕ → ℕ → ℕ
kept_at s sums x t = get_or sums (x * equations s + t) 0

-- "adding the equations at both spots leaves r unknowns" (document 01): those at sum x, by the known sides that are kept
unfoldable pub unknowns_at : Code → Shape → List ℕ → List ℕ → ℕ → List ℕ → ℕ → List ℕ
unknowns_at c s dead helpers u sums x =
    solution c.modulus (unknowns (more_points c s.n (spot_at s dead u x).a (node dead u)) helpers) (λ t. minus c.modulus 0 (kept_at s sums x t))

-- entry i of the column at sum x, no helper's: the n nodes' entries, and behind them the own symbol at the other place
unfoldable pub finished_at : Code → Shape → List ℕ → List ℕ → ℕ → List ℕ → ℕ → ℕ → ℕ
finished_at c s dead helpers u sums i x = get_or (unknowns_at c s dead helpers u sums x) (position i (others (s.n + 1) helpers)) 0

-- the own symbols at sum x, "the spot named first in each sum before the other"
unfoldable pub finished_pair : Code → Shape → List ℕ → List ℕ → ℕ → List ℕ → ℕ → List ℕ
finished_pair c s dead helpers u sums x = finished_at c s dead helpers u sums (node dead u) x ∷ finished_at c s dead helpers u sums s.n x ∷ []

-- the own pairs
unfoldable pub finished_pairs : Code → Shape → List ℕ → List ℕ → ℕ → List ℕ → List ℕ
finished_pairs c s dead helpers u sums = flat (message_size s dead) (finished_pair c s dead helpers u sums)

-- the outgoing message to the j-th of the other dead nodes
unfoldable pub finished_to : Code → Shape → List ℕ → List ℕ → ℕ → List ℕ → ℕ → List ℕ
finished_to c s dead helpers u sums j = tabulate (message_size s dead) (finished_at c s dead helpers u sums (node dead (other_rank u j)))

-- the outgoing messages, to each other dead node, rising
unfoldable pub finished_exchanges : Code → Shape → List ℕ → List ℕ → ℕ → List ℕ → List ℕ
finished_exchanges c s dead helpers u sums = flat (length dead - 1) (finished_to c s dead helpers u sums)
