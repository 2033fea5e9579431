-- What the functions that write a plan's text demand and promise.
use Rattle.std.specs.Prelude.{◌≡◌, false, List, ℕ, ◌+◌, ◌≤◌, length}
use Rattle.std.proofs.lemmas.List.Edits.{sets}
use Rattle.shape.specs.declared.Shape.{Shape}
use Rattle.shape.specs.Shape.{most_nodes}
use Rattle.shape.specs.Refusals.{shape_bad, repair_bad}

-- some bytes are written into a buffer from a place on; `next` is the place behind them
pub record Puts (bytes before : List ℕ) (at : ℕ) (after : List ℕ) (next : ℕ) : Type 0 where
  pub place : next ≡ at + length bytes
  pub held : after ≡ sets before at bytes

-- some dead nodes, and no more listed nodes than there can be
pub record Few (dead helpers : List ℕ) : Type 0 where
  pub some : 1 ≤ length dead
  pub dead_few : length dead ≤ most_nodes
  pub helpers_few : length helpers ≤ most_nodes

-- lists that are planned: neither the shape nor the lists are bad
pub record Plannable (s : Shape) (dead helpers : List ℕ) : Type 0 where
  pub shape : shape_bad s ≡ false
  pub lists : repair_bad s dead helpers ≡ false
