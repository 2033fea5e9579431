-- `completion::powers` meets its contract. Assumes nothing.
use Rattle.std.proofs.Common.{◌≡◌, ◌<◌, ◌∙◌, ℕ, length, length-take, arith}
use lib.ListN.{get_or-append}
use Rattle.lists.proofs.Stores.{stored_more}
use Rattle.column.specs.Solving.{power_of}
use Rattle.field.proofs.Modular.{power_more}
use Rattle.completion.proofs.powers.Goals as goal

pub loop-power-preserved : goal.loop-power-preserved
loop-power-preserved c =
    let l = c.loop-power in
    let s = c.args in (
      c.multiply-p.ensures.1 ∙ power_more s.q s.x l.power-index l.p l.invariant.0,
      stored_more (λ u y. y ≡ power_of s.q s.x u) l.power-items l.power-index _ 0 (omega arith) l.invariant.1 l.invariant.0,
    )

pub returns : goal.returns
returns c = λ t h.
    let l = c.loop-power in
    let in_it : t < length l.power-items = omega (arith, length-take {A = ℕ}) in
    get_or-append _ _ 0 t in_it ∙ l.invariant.1 t (omega arith)
