-- What is promised of the functions inside the check.
use Rattle.std.specs.Prelude.{◌≡◌, List, ℕ, ◌-◌, ◌%◌, ◌^◌, ◌≤◌, ◌<◌}
use Rattle.shape.specs.declared.Shape.{Shape}
use Rattle.shape.specs.Shape.{size}
use Rattle.code.specs.Code.{narrow}
use Rattle.code.specs.Archive.{equation}

-- in every layer, all equations at the a below `to` are met
pub record MetTo (s : Shape) (nodes : List ℕ) (to : ℕ) : Type 0 where
  pub high : to ≤ 2 ^ s.n
  pub met : (place t : ℕ) → place < size s → place % 2 ^ s.n < to → t < s.n - s.k → equation narrow s nodes place t ≡ 0
