-- What is promised of the functions inside correcting.
use Rattle.std.specs.Prelude.{◌≡◌, ◌≢◌, false, List, ℕ, ◌+◌, ◌*◌, ◌%◌, ◌≤◌, ◌<◌, ℤ, length, get_or}
use Rattle.lists.specs.Lists.{element}
use Rattle.shape.specs.declared.Shape.{Shape}
use Rattle.shape.specs.Shape.{most_nodes, size}
use Rattle.shape.specs.Refusals.{shape_bad, symbol_bad}
use Rattle.code.specs.Code.{Code, narrow}
use Rattle.code.specs.Archive.{column}
use Rattle.correcting.specs.Signed.{change_bad}
use Rattle.correcting.specs.Correcting.{change_factor}

-- what is known where correcting is not turned back
pub record Correctable (c : Code) (s : Shape) (nodes : List ℕ) (b : ℕ) (z : ℤ) : Type 0 where
  pub shape : shape_bad s ≡ false
  pub long : length nodes ≡ s.n * size s
  pub within : b < s.k * size s
  pub small : symbol_bad c.modulus (column s nodes (b % size s)) ≡ false
  pub change : change_bad (get_or nodes b 0) z ≡ false

-- what each node's symbol at a place changes by, where data node `node` changes by d
pub record Changes (s : Shape) (node place d : ℕ) (by : List ℕ) : Type 0 where
  pub long : length by ≡ most_nodes
  pub each : (i : ℕ) → i < s.n → element by i ≡ (d * change_factor narrow s node place i) % narrow.modulus

-- the nodes from first to n - 1, of `size` symbols each, changed at a place by these numbers, and nothing else
pub record Changed (first n size place : ℕ) (by before after : List ℕ) : Type 0 where
  pub long : length after ≡ length before
  pub there : (i : ℕ) → first ≤ i → i < n → get_or after (i * size + place) 0 ≡ (get_or before (i * size + place) 0 + element by i) % narrow.modulus
  pub other : (e : ℕ) → ((i : ℕ) → first ≤ i → i < n → e ≢ i * size + place) → get_or after e 0 ≡ get_or before e 0
