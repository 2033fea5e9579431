-- `comparing::listed_met` meets its contract. Assumes nothing.
use Rattle.std.proofs.Common.{rules, arith}
use Rattle.shape.proofs.Accepted.{shape_accepted}
use Rattle.rows.proofs.Rows.{low_replicate}
use Rattle.tables.specs.Tables.{table_size}
use Rattle.comparing.proofs.listed_met.Goals as goal

pub represent-requires : goal.represent-requires
represent-requires c =
    ((shape_accepted _ c.requires.0).n_high, search rules, c.pays.ensures (search rules), c.requires.1.up, c.marks-marked.ensures, search rules, low_replicate _ table_size 0 (omega arith))
