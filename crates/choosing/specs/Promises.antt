-- What is promised of the choice of layers: the number, the layers, and the request's claims in its words.
use Rattle.std.specs.Prelude.{◌≡◌, ◌≢◌, true, not, ◌&&◌, List, [], ◌∷◌, ℕ, ◌+◌, ◌*◌, ◌%◌, ◌^◌, ◌≤◌, ◌<◌, eqb, Result, Ok, Err}
use Rattle.lists.specs.Lists.{all, member}
use Rattle.shape.specs.Shape.{most_layers, within}
use Rattle.shape.specs.declared.Refusal.{Refusal}
use Rattle.shape.specs.Refusals.{answer_number, answer_values, afterwards, refuse}
use Rattle.shape.specs.declared.Refusal.TheVariants.{NoLayers}
use Rattle.choosing.specs.Layers.{serves_all, least_layers, layers_refusal}

-- L serves a loss of h nodes, in document 01's words: "Write h+1 = s × 2^m with s odd", and L is a multiple of s
pub record Serves (layers h : ℕ) : Type 0 where
  pub s : ℕ
  pub power : ℕ
  pub batches : ℕ
  pub parts : h + 1 ≡ s * 2 ^ power
  pub odd : s % 2 ≡ 1
  pub multiple : layers ≡ batches * s

-- L "serves each value in the list"
abbrev pub ServesEach : ℕ → List ℕ → Type 0
ServesEach layers losses = (h : ℕ) → member h losses ≡ true → Serves layers h

pub record Chooses (n k : ℕ) (losses : List ℕ) (answer : Result ℕ Refusal) : Type 0 where
  pub number : answer_number answer ≡ layers_refusal n k losses
  pub returned : answer_values answer ≡ afterwards (layers_refusal n k losses) [] (least_layers losses ∷ [])
  -- "L from 1 to 15"
  pub range : (layers : ℕ) → answer ≡ Ok layers → (1 ≤ layers) × (layers ≤ most_layers)
  -- "that serves each value in the list"
  pub served : (layers : ℕ) → answer ≡ Ok layers → ServesEach layers losses
  -- "the smallest": no smaller one does
  pub smallest : (layers fewer : ℕ) → answer ≡ Ok layers → 1 ≤ fewer → fewer < layers → ServesEach fewer losses → ⊥
  -- 11: "no L up to 15 serves them all"
  pub none : answer ≡ Err NoLayers → (layers : ℕ) → 1 ≤ layers → layers ≤ most_layers → ServesEach layers losses → ⊥

-- ---- what it is for

-- a call of a repair does not turn back for its shape (1) or for its layers (3): "accepted for layers"
abbrev pub LayersAccepted : ℕ → Type 0
LayersAccepted number = (number ≢ 1) × (number ≢ 3)

-- ---- inner functions

-- x is the least common multiple of l and s: the multiples of x are those of both
pub record Common (l s x : ℕ) : Type 0 where
  pub positive : 0 < x
  pub multiples : (m : ℕ) → eqb (m % x) 0 ≡ (eqb (m % l) 0 && eqb (m % s) 0)

-- what one pass over the losses finds: 2 where a value is outside 1 to `most`, and otherwise the number whose multiples serve them all
pub record Needed (most : ℕ) (losses : List ℕ) (found : Result ℕ Refusal) : Type 0 where
  pub number : answer_number found ≡ refuse (not (all (within 1 most) losses)) 2 0
  pub positive : (least : ℕ) → found ≡ Ok least → 0 < least
  pub multiples : (least : ℕ) → found ≡ Ok least → (m : ℕ) → serves_all losses m ≡ eqb (m % least) 0
