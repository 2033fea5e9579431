-- What is promised of the functions that compare.
use Rattle.std.specs.Prelude.{List, ℕ, ◌^◌, ◌≤◌}
use Rattle.shape.specs.declared.Shape.{Shape}
use Rattle.shape.specs.Shape.{size}
use Rattle.filling.specs.Filling.{Filled, Below}

-- in every layer, the nodes that are not listed hold at the a below `to` what would be filled in from those that are
pub record HeldTo (s : Shape) (list nodes : List ℕ) (to : ℕ) : Type 0 where
  pub high : to ≤ 2 ^ s.n
  pub held : Filled s.n (size s) list (Below (2 ^ s.n) to) nodes nodes
