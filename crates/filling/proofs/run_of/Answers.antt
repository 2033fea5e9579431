-- `filling::run_of` meets its contract. Assumes nothing.
use Rattle.std.proofs.Common.{ap, ◌∙◌}
use Prim.Native.Nat.{min}
use Rattle.filling.proofs.Filling.{runs_of}
use Rattle.filling.proofs.run_of.Goals as goal

pub returns : goal.returns
returns c = runs_of _ _ (c.min.ensures ∙ ap (λ k. min k 64) c.two_to.ensures)
