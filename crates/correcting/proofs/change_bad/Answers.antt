-- `correcting::change_bad` meets its contract: the range, then the sum. Assumes nothing.
use mathlib.Core.Path.{◌≡◌, sym, ap, ap₂, ◌∙◌}
use mathlib.Core.Bool.{true, ◌||◌}
use native.Mathlib.Omega.{arith}
use lib.IntN.{pos, ◌+ℤ◌}
use lib.Signed.{lt_z}
use mir.Syntax.{w64}
use mir.Val.{to_z, of_z, SFits}
use mir.Facts.{to_z-of_z, to_z_pos}
use Rattle.correcting.specs.Signed.{is_change}
use Rattle.correcting.proofs.Signed.{range_tested, out_of_range, sum_tested, sum_low}
use Rattle.correcting.proofs.change_bad.Goals as goal
use Rattle.correcting.proofs.change_bad.Goals.{After-contains, Else-not-contains}

-- the range is that of a change
told : (c : After-contains) → c.contains.result ≡ is_change c.args.change
told c = (rw (c.new.ensures.start, c.new.ensures.end, c.new.ensures.exhausted) at c.contains.ensures.value) ∙ range_tested _ ∙ ap is_change (to_z-of_z c.ranges.change)

pub returns-then-not-contains : goal.returns-then-not-contains
returns-then-not-contains c = sym (out_of_range _ _ (sym (told (goal.at.returns-then-not-contains c).After-contains) ∙ c.if-not-contains.true))

known : (c : Else-not-contains) → is_change c.args.change ≡ true
known c = sym (told (goal.at.Else-not-contains c).After-contains) ∙ c.if-not-contains.false

-- what is added, as the bits have it
sum_is : (c : Else-not-contains) →
    let a = c.args in
    to_z w64 a.symbol +ℤ to_z w64 (of_z w64 a.change) ≡ pos a.symbol +ℤ a.change
sum_is c = ap₂ ◌+ℤ◌ (to_z_pos w64 (omega (arith, c.ranges.symbol.fits))) (to_z-of_z c.ranges.change)

sum_fits : (c : Else-not-contains) → let a = c.args in SFits w64 (to_z w64 a.symbol +ℤ to_z w64 (of_z w64 a.change))
sum_fits c = let a = c.args in rw (sum_is c) (record { sfits = omega (arith, sum_low a.symbol a.change (known c), c.ranges.symbol.fits) })

pub overflow_add-sum : goal.overflow_add-sum
overflow_add-sum c = sum_fits c

pub returns : goal.returns
returns c =
    let a = c.args in
    ap (λ u. lt_z u (pos 0) || lt_z (pos 255) u) (to_z-of_z (sum_fits c) ∙ sum_is c) ∙ sum_tested a.symbol a.change (known c)
