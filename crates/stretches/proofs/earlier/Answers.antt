-- `stretches::earlier` meets its contract. Assumes nothing.
use mathlib.Core.Logic.{◌⊎◌, inl, inr}
use mathlib.Core.Path.{◌≡◌, refl}
use mathlib.Core.Bool.{false}
use Prim.Native.Nat.{◌≤◌}
use borrow.Author.Tests.{ltb-true, ltb-false}
use lib.Dec.{ltb}
use Rattle.lists.proofs.Tests.{both, not_both}
use Rattle.stretches.proofs.earlier.Goals as goal

pub returns-then-b-stop : goal.returns-then-b-stop
returns-then-b-stop c = let b = both _ _ c.if-b-stop.true in inl (refl, ltb-true _ _ b.0, ltb-true _ _ b.1)

pub returns-else-b-stop : goal.returns-else-b-stop
returns-else-b-stop c = inr (refl, go (not_both (ltb c.args.b c.args.stop) (ltb c.args.b c.args.found) c.if-b-stop.false))
  where
    go : (ltb c.args.b c.args.stop ≡ false) ⊎ (ltb c.args.b c.args.found ≡ false)
        → (c.args.stop ≤ c.args.b) ⊎ (c.args.found ≤ c.args.b)
    go (inl e) = inl (ltb-false _ _ e)
    go (inr e) = inr (ltb-false _ _ e)
