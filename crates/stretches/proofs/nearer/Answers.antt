-- `stretches::nearer` meets its contract. Assumes nothing.
use mathlib.Core.Logic.{◌⊎◌, inl, inr}
use mathlib.Core.Path.{◌≡◌}
use mathlib.Core.Bool.{false}
use Prim.Native.Nat.{◌≤◌, ◌<◌}
use native.Mathlib.Omega.{arith}
use borrow.Author.Tests.{ltb-true, ltb-false}
use lib.Dec.{ltb}
use Rattle.lists.proofs.Tests.{both, not_both}
use Rattle.stretches.proofs.nearer.Goals as goal

pub returns-then-at-x : goal.returns-then-at-x
returns-then-at-x c = let b = both _ _ c.if-at-x.true in
    record { on = λ _. ltb-true _ _ b.0; upto = less (ltb-true _ _ b.1); short = λ _. omega arith }
  where
    less : c.args.x < c.args.end → c.args.x ≤ c.args.end
    less h = omega arith

pub returns-else-at-x : goal.returns-else-at-x
returns-else-at-x c = record { on = λ h. h; upto = omega arith; short = λ h. go h (not_both (ltb c.args.at c.args.x) (ltb c.args.x c.args.end) c.if-at-x.false) }
  where
    go : c.args.at < c.args.x → (ltb c.args.at c.args.x ≡ false) ⊎ (ltb c.args.x c.args.end ≡ false)
        → c.args.end ≤ c.args.x
    go h (inl e) = absurd (omega (arith, ltb-false c.args.at c.args.x e))
    go h (inr e) = ltb-false _ _ e
