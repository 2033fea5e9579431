-- `tables::entry_multipliers` meets its contract. Assumes nothing.
use mathlib.Core.Path.{refl}
use native.Mathlib.Omega.{arith}
use Rattle.lists.specs.Lists.{element}
use Rattle.code.specs.Code.{narrow}
use Rattle.rows.proofs.Rows.{low_replicate}
use Rattle.tables.specs.Tables.{points_size}
use Rattle.tables.proofs.Tables.{entry_columns, entry_points_lem}
use Rattle.tables.proofs.entry_multipliers.Goals as goal

pub point_rows-requires : goal.point_rows-requires
point_rows-requires c = (c.requires.sizes.0, c.requires.sizes.2, c.requires.sizes.3, refl, low_replicate narrow.modulus points_size 0 (omega arith))

pub point_row-requires : goal.point_row-requires
point_row-requires c =
    (omega arith, omega (arith, c.point_rows.ensures.long, c.requires.sizes.2), c.requires.sizes.3)

pub all_rows-requires : goal.all_rows-requires
all_rows-requires c =
    let w = entry_points_lem _ _ _ _ _ _ c.requires.sizes.0 c.requires.sizes.1 c.requires.sizes.2 c.point_rows.ensures c.point_row.ensures in
    record { sizes = (omega arith, omega arith, c.requires.sizes.2, w.long, w.low, c.requires.sizes.4, c.requires.sizes.5); marks = c.requires.marks }

pub returns : goal.returns
returns c =
    c.all_rows.ensures _ (entry_columns c.args.n c.args.i (element c.args.each.now) c.requires.sizes.0 c.requires.sizes.1)
    (entry_points_lem _ _ _ _ _ _ c.requires.sizes.0 c.requires.sizes.1 c.requires.sizes.2 c.point_rows.ensures c.point_row.ensures)
