-- What is promised of the check.
use Rattle.std.specs.Prelude.{◌≡◌, ◌≢◌, ◌↔◌, false, cond, List, [], ◌∷◌, ℕ, ◌+◌, ◌-◌, ◌*◌, ◌/◌, ◌%◌, ◌^◌, ◌≤◌, ◌<◌, eqb, Result, Ok, Err, Option, Some, None}
use Rattle.std.specs.Option.{option_or}
use Rattle.shape.specs.declared.Shape.{Shape}
use Rattle.shape.specs.Shape.{size, byte_values}
use Rattle.shape.specs.Refusals.{answer_number, afterwards, shape_bad}
use Rattle.code.specs.Code.{narrow}
use Rattle.code.specs.Archive.{symbol, equation, Codeword, first_unmet, first_high, LowData, OfTranscript}
use Rattle.code.specs.Refusals.{check_refusal}
use Rattle.shape.specs.declared.Refusal.{Refusal}
use Rattle.checking.specs.declared.Fault.{Fault}
use Rattle.checking.specs.declared.Fault.TheVariants.{Unmet, HighData}

-- what the check answers: nothing found, "sound", or a fault; or why it turned back
abbrev pub Checked : Type 0
Checked = Result (Option Fault) Refusal

-- the values of an answer: "the first unmet equation by layer, then a, then t", or "the first such symbol by node then place" (document 02 §5)
abbrev pub checked_values : Checked → List ℕ
checked_values (Ok None) = []
checked_values (Ok (Some (Unmet layer a t))) = layer ∷ a ∷ t ∷ []
checked_values (Ok (Some (HighData node place))) = node ∷ place ∷ []
checked_values (Err cause) = []

-- What the equations say: sound, "or the first unmet equation by layer, then a, then t". Equation e is t = e mod r at place e div r, which is
-- layer × 2^n + a; e is N × r where all are met.
unfoldable pub checked_by : Shape → ℕ → Option Fault
checked_by s e =
    cond (eqb e (size s * (s.n - s.k))) None
    (Some (Unmet (e / (s.n - s.k) / 2 ^ s.n) (e / (s.n - s.k) % 2 ^ s.n) (e % (s.n - s.k))))

-- What the data symbols say: sound, or "the first such symbol by node then place is named" (document 02 §5). Data symbol e is that of node
-- e div N at place e mod N; e is k × N where none is above 255.
unfoldable pub data_by : Shape → ℕ → Option Fault
data_by s e = cond (eqb e (s.k * size s)) None (Some (HighData (e / size s) (e % size s)))

-- What the check finds: "The equations are judged first; otherwise the first such symbol by node then place is named." (document 02 §5)
unfoldable pub check_answer : Shape → List ℕ → Option Fault
check_answer s nodes = option_or (checked_by s (first_unmet narrow s nodes)) (data_by s (first_high byte_values s nodes))

-- the number of equation t at (layer, a)
unfoldable pub equation_number : Shape → ℕ → ℕ → ℕ → ℕ
equation_number s layer a t = (layer * 2 ^ s.n + a) * (s.n - s.k) + t

-- equation t at (layer, a) is not met, and every equation before it is: by layer, then a, then t
pub record FirstUnmet (s : Shape) (nodes : List ℕ) (layer a t : ℕ) : Type 0 where
  pub layer_below : layer < s.layers
  pub a_below : a < 2 ^ s.n
  pub t_below : t < s.n - s.k
  pub here : equation narrow s nodes (layer * 2 ^ s.n + a) t ≢ 0
  pub before : (x b u : ℕ) → b < 2 ^ s.n → u < s.n - s.k → equation_number s x b u < equation_number s layer a t
      → equation narrow s nodes (x * 2 ^ s.n + b) u ≡ 0

-- the number of a node's symbol at a place
unfoldable pub symbol_number : Shape → ℕ → ℕ → ℕ
symbol_number s node place = node * size s + place

-- a data node's symbol at a place is above 255, and no data symbol before it is: by node, then place
pub record FirstHigh (s : Shape) (nodes : List ℕ) (node place : ℕ) : Type 0 where
  pub node_below : node < s.k
  pub place_below : place < size s
  pub here : byte_values ≤ symbol s nodes node place
  pub before : (i p : ℕ) → p < size s → symbol_number s i p < symbol_number s node place → symbol s nodes i p < byte_values

pub record Checks (s : Shape) (nodes : List ℕ) (answer : Checked) : Type 0 where
  pub number : answer_number answer ≡ check_refusal narrow s nodes
  pub returned : checked_values answer ≡ afterwards (check_refusal narrow s nodes) [] (checked_values (Ok (check_answer s nodes)))
  pub found : check_refusal narrow s nodes ≡ 0 → answer ≡ Ok (check_answer s nodes)
  -- "sound only if, besides the equations, nodes 0 to k−1 hold nothing above 255" (document 02 §5), and then always
  pub sound : shape_bad s ≡ false → (answer ≡ Ok None) ↔ (Codeword narrow s nodes × LowData byte_values s nodes)
  -- "A sound archive must be a transcript's." (document 02 §5): sound exactly if the nodes are what writing some k × N bytes gives
  pub transcript : shape_bad s ≡ false → (answer ≡ Ok None) ↔ OfTranscript byte_values narrow s nodes
  pub unmet : (layer a t : ℕ) → answer ≡ Ok (Some (Unmet layer a t)) → FirstUnmet s nodes layer a t
  -- where a symbol is named, all equations are met
  pub high : (node place : ℕ) → answer ≡ Ok (Some (HighData node place)) → Codeword narrow s nodes × FirstHigh s nodes node place
