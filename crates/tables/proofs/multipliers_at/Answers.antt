-- `tables::multipliers_at` meets its contract. Assumes nothing.
use mathlib.Core.Path.{refl, ◌∙◌}
use native.Mathlib.Omega.{arith}
use Rattle.lists.specs.Lists.{element}
use Rattle.lists.proofs.Others.{rising_fits}
use Rattle.code.specs.Code.{narrow}
use Rattle.rows.proofs.Rows.{low_replicate}
use Rattle.tables.specs.Tables.{points_size}
use Rattle.tables.proofs.Tables.{node_columns, nodes_room, table_same}
use Rattle.tables.proofs.multipliers_at.Goals as goal

pub point_rows-requires : goal.point_rows-requires
point_rows-requires c = (c.requires.0, c.requires.2, c.requires.3, refl, low_replicate narrow.modulus points_size 0 (omega arith))

pub all_rows-requires : goal.all_rows-requires
all_rows-requires c =
    let w = c.point_rows.ensures in
    record { sizes = (omega arith, c.requires.1, c.requires.2, w.long, w.low, c.requires.4, nodes_room _ _ c.requires.0 (rising_fits _ _ c.requires.4)); marks = (c.requires.5, λ i h e. e, c.requires.6, c.requires.7) }

pub returns : goal.returns
returns c =
    table_same _ _ c.requires.2 _ _ _ _ _ _ (λ t h. refl) (λ i h e. c.requires.5.each i (omega arith) ∙ e)
    (c.all_rows.ensures _ (node_columns c.args.n (element c.args.each.now) c.requires.0) c.point_rows.ensures)
