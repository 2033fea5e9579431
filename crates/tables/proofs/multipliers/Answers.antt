-- `tables::multipliers` meets its contract. Assumes nothing.
use Rattle.std.proofs.Common.{◌≡◌, ◌<◌, ◌∙◌, ap, ℕ, length, length-take, arith}
use lib.ListN.{get_or-append}
use Rattle.code.specs.Code.{narrow, points}
use Rattle.tables.proofs.Tables.{table_same}
use Rattle.tables.proofs.multipliers.Goals as goal

pub returns : goal.returns
returns c =
    let l = c.loop-t in
    let long : length l.x-items ≡ c.args.run = omega (arith, length-take {A = ℕ}) in
    table_same _ _ c.requires.2 _ _ _ _ _ _
    (λ t h. let in_it : t < length l.x-items = omega arith in ap (points narrow c.args.n) (get_or-append _ _ 0 t in_it ∙ l.invariant t (omega arith)))
    (λ i h e. e) c.multipliers_at.ensures
