-- What is promised of the functions inside opening.
use Rattle.std.specs.Prelude.{◌≡◌, ◌⊎◌, Bool, true, false, List, ℕ, ◌+◌, ◌-◌, ◌*◌, ◌/◌, ◌%◌, ◌^◌, ◌≤◌, ◌<◌, length, get_or, take}
use Rattle.lists.specs.Lists.{member, rising}
use Rattle.shape.specs.declared.Shape.{Shape}
use Rattle.shape.specs.Shape.{size}
use Rattle.shape.specs.Refusals.{shape_bad, answer_number, afterwards, Answer}
use Rattle.rows.specs.Rows.{most_places}
use Rattle.code.specs.Code.{narrow}
use Rattle.code.specs.Archive.{data_of}
use Rattle.code.specs.Refusals.{data_refusal}
use Rattle.code.specs.Steps.{data_fits}
use Rattle.filling.specs.Filling.{InRun}
use Rattle.factors.specs.Factors.{factor, weighed}

-- k nodes in a rising list, and their k × N symbols
pub record Readable (s : Shape) (list symbols : List ℕ) : Type 0 where
  pub shape : shape_bad s ≡ false
  pub up : rising 0 s.n list ≡ true
  pub count : length list ≡ s.k
  pub long : length symbols ≡ s.k * size s
  pub small : (e : ℕ) → e < length symbols → get_or symbols e 0 < narrow.modulus

-- data symbol e, that of node e div N at place e mod N, by the multipliers of its a and the k symbols at its place
unfoldable pub opened : Shape → List ℕ → List ℕ → ℕ → ℕ
opened s list symbols e = weighed narrow s symbols (factor narrow s.n list (e % size s % 2 ^ s.n) (e / size s)) (e % size s)

-- row i * k + j of a table has the multipliers of listed node j in data node i, which is not listed, at `run` places
pub record Factors (s : Shape) (list table : List ℕ) (place run : ℕ) : Type 0 where
  pub each : (i j t : ℕ) → i < s.k → member i list ≡ false → j < s.k → t < run
      → get_or table ((i * s.k + j) * most_places + t) 0 ≡ factor narrow s.n list ((place + t) % 2 ^ s.n) i j

-- what data node i, which is not listed, holds at `run` places
pub record MissingRow (s : Shape) (place run i : ℕ) (table symbols row : List ℕ) : Type 0 where
  pub long : length row ≡ most_places
  pub each : (list : List ℕ) → Readable s list symbols → Factors s list table place run → member i list ≡ false
      → (t : ℕ) → t < run → opened s list symbols (i * size s + place + t) ≡ get_or row t 0

-- how many of `count` places from `at` on lie before the end
pub record BeforeEnd (end at count within : ℕ) : Type 0 where
  pub few : within ≤ count
  pub before : (t : ℕ) → t < within → at + t < end
  pub behind : (t : ℕ) → within ≤ t → t < count → end ≤ at + t

-- whether the data symbols from `at` on may be what a row has
pub record RowFits (len at : ℕ) (row : List ℕ) (fit : Bool) : Type 0 where
  pub each : fit ≡ true → (t : ℕ) → t < length row → data_fits len (at + t) (get_or row t 0) ≡ true
  pub not_each : fit ≡ false → ((t : ℕ) → t < length row → data_fits len (at + t) (get_or row t 0) ≡ true) → ⊥

-- whether all data symbols D e with Done e may stand where they do; if so, those before `room` are stored. Either way an element is as it was,
-- or lies before `room` and is its data symbol.
pub record Walked (D : ℕ → ℕ) (len room : ℕ) (Done : ℕ → Type 0) (before after : List ℕ) (fit : Bool) : Type 0 where
  pub long : length after ≡ length before
  pub others : (e : ℕ) → (get_or after e 0 ≡ get_or before e 0) ⊎ ((e < room) × (get_or after e 0 ≡ D e))
  pub fits : fit ≡ true → (e : ℕ) → Done e → data_fits len e (D e) ≡ true
  pub there : fit ≡ true → (e : ℕ) → Done e → e < room → get_or after e 0 ≡ D e
  pub misfit : fit ≡ false → ((e : ℕ) → Done e → data_fits len e (D e) ≡ true) → ⊥

-- the numbers e with F i e for one of the first m i
abbrev pub OneOf : ℕ → (ℕ → ℕ → Type 0) → ℕ → Type 0
OneOf m F e = (i : ℕ) × (i < m) × F i e

-- the data symbols of listed node j, where it is a data node
abbrev pub OfListed : Shape → List ℕ → ℕ → ℕ → Type 0
OfListed s list j e = (get_or list j 0 < s.k) × InRun (get_or list j 0 * size s) (size s) e

-- those of node i, where it is not listed, at a run of places; of all nodes in a layer; and in every layer
abbrev pub AtRun : Shape → List ℕ → ℕ → ℕ → ℕ → ℕ → Type 0
AtRun s list run place i e = (member i list ≡ false) × InRun (i * size s + place) run e

abbrev pub AtLayer : Shape → List ℕ → ℕ → ℕ → ℕ → ℕ → Type 0
AtLayer s list run a layer e = OneOf s.k (AtRun s list run (layer * 2 ^ s.n + a)) e

abbrev pub AtBlock : Shape → List ℕ → ℕ → ℕ → ℕ → Type 0
AtBlock s list run block e = OneOf s.layers (AtLayer s list run (block * run)) e

-- all those of the nodes that are not listed
abbrev pub Missing : Shape → List ℕ → ℕ → Type 0
Missing s list e = (e < s.k * size s) × (member (e / size s) list ≡ false)

-- all data symbols
abbrev pub AllData : Shape → ℕ → Type 0
AllData s e = e < s.k * size s

-- the last of the listed nodes is below their count: they rise, and so are nodes 0, 1, ..
abbrev pub AllListed : List ℕ → Type 0
AllListed list = get_or list (length list - 1) 0 < length list

-- cause 7, and the bytes where it does not hold
pub record OpenedAll (s : Shape) (list symbols before after : List ℕ) (answer : Answer) : Type 0 where
  pub long : length after ≡ length before
  pub number : answer_number answer ≡ data_refusal narrow s list symbols (length before)
  pub bytes : after ≡ afterwards (data_refusal narrow s list symbols (length before)) before (take (length before) (data_of narrow s list symbols))
