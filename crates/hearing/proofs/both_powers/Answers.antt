-- `hearing::both_powers` meets its contract: the powers of the point at 0, where no bit is set, and at 2^i. Assumes nothing.
use mathlib.Core.Path.{ap, ◌∙◌}
use Rattle.code.specs.Code.{narrow, point}
use Rattle.column.specs.Solving.{power_of}
use Rattle.hearing.proofs.Adding.{both_stored}
use Rattle.hearing.proofs.both_powers.Goals as goal

pub returns : goal.returns
returns c =
    let i = c.args.i in
    both_stored c.args.r i c.powers.result c.powers-2.result _ _ c.requires.0 c.put_row.ensures c.put_row-2.ensures
    (λ t h. c.powers.ensures t h ∙ ap (λ p. power_of narrow.modulus p t) c.point.ensures.1)
    (λ t h. c.powers-2.ensures t h ∙ ap (λ p. power_of narrow.modulus p t) (c.point-2.ensures.1 ∙ ap (λ a. point narrow a i) c.two_to.ensures))
