-- Layers for a whole list of losses (document 02 §6): which L serve it, the smallest of them, and when the call turns back.
use Rattle.std.specs.Prelude.{Bool, not, List, ℕ, ◌+◌, ◌-◌, ltb}
use Rattle.lists.specs.Lists.{all, first_from}
use Rattle.shape.specs.Shape.{most_layers, within}
use Rattle.shape.specs.Batches.{odd_part}
use Rattle.shape.specs.Refusals.{refuse, shape_bad, layers_bad}

-- L serves a loss of h nodes: a repair of them is not turned back with 3, "L not a multiple of s"
unfoldable pub serves : ℕ → ℕ → Bool
serves layers h = not (layers_bad layers (odd_part h (h + 1)))

-- L "serves each value in the list"
unfoldable pub serves_all : List ℕ → ℕ → Bool
serves_all losses layers = all (serves layers) losses

-- "the smallest L from 1 to 15 that serves each value in the list", or 16 where there is none
unfoldable pub least_layers : List ℕ → ℕ
least_layers losses = first_from (serves_all losses) 1 most_layers

-- 1: n or k outside its range: the shape with them and one layer, which is in range, is bad
unfoldable pub counts_bad : ℕ → ℕ → Bool
counts_bad n k = shape_bad (record { n = n; k = k; layers = 1 })

-- 2: "A value outside 1 to n−k−1"
unfoldable pub losses_bad : ℕ → ℕ → List ℕ → Bool
losses_bad n k losses = not (all (within 1 (n - k - 1)) losses)

-- 11: "no L up to 15 serves them all"
unfoldable pub no_layers : List ℕ → Bool
no_layers losses = ltb most_layers (least_layers losses)

-- the number of the first cause, 11 "judged after 2"; 0 where the call does its work
unfoldable pub layers_refusal : ℕ → ℕ → List ℕ → ℕ
layers_refusal n k losses =
    refuse (counts_bad n k) 1
    (refuse (losses_bad n k losses) 2
    (refuse (no_layers losses) 11 0))
