-- `correcting::alone` meets its contract. Assumes nothing.
use mathlib.Core.Path.{◌≡◌, sym, ap, ◌∙◌}
use Prim.Native.Nat.{ℕ, ◌*◌, ◌<◌}
use native.Mathlib.Decide.{ℕ_discrete}
use native.Mathlib.Omega.{arith}
use lib.ListN.{get_or, set, replicate, length-set, get_or-replicate}
use lib.Seq.{get_or-set_same, get_or-set_other}
use Rattle.shape.specs.Shape.{most_nodes}
use Rattle.multipliers.specs.Multipliers.{unit}
use Rattle.multipliers.proofs.Units.{unit_same, unit_other}
use Rattle.correcting.proofs.alone.Goals as goal

element_is : (at x j : ℕ) → at < most_nodes → j < most_nodes → get_or (set (replicate most_nodes 0) at x) j 0 ≡ x * unit at j
element_is at x j h l = go (ℕ_discrete j at)
  where
    go : Dec (j ≡ at) → get_or (set (replicate most_nodes 0) at x) j 0 ≡ x * unit at j
    go (yes e) = rw e (get_or-set_same (replicate most_nodes 0) at x 0 (omega arith) ∙ sym (ap (λ u. x * u) (unit_same at) ∙ omega arith))
    go (no n) = get_or-set_other (replicate most_nodes 0) at j x 0 n ∙ get_or-replicate most_nodes j 0 0 l ∙ sym (ap (λ u. x * u) (unit_other at j n) ∙ omega arith)

pub returns : goal.returns
returns c = (length-set (replicate most_nodes 0) c.args.at c.args.x, λ j h. element_is c.args.at c.args.x j c.requires h)
