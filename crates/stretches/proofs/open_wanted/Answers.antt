-- `stretches::open_wanted` meets its contract. Assumes nothing.
use Rattle.std.proofs.Common.{rules, arith}
use Rattle.shape.proofs.Accepted.{shape_accepted}
use Rattle.rows.proofs.Rows.{low_replicate}
use Rattle.tables.specs.Tables.{table_size}
use Rattle.stretches.proofs.open_wanted.Goals as goal

pub marks-marked-requires : goal.marks-marked-requires
marks-marked-requires c = omega (arith, (shape_accepted _ c.requires.0.shape).n_high)

pub pays-requires : goal.pays-requires
pays-requires c = omega (arith, (shape_accepted _ c.requires.0.shape).n_high)

pub represent-requires : goal.represent-requires
represent-requires c =
    let p = c.requires.0 in
    let w = shape_accepted _ p.shape in
    (w.n_high, omega (arith, w.k_high), c.pays.ensures (search rules), p.up, c.marks-marked.ensures, search rules, low_replicate _ table_size 0 (omega arith))

pub shape_of-bytes : goal.shape_of-bytes
shape_of-bytes c = c.judge_and_store-2.ensures.long

pub returns : goal.returns
returns c = c.judge_and_store-2.ensures
