-- `opening::open_data` meets its contract. Assumes nothing.
use native.Mathlib.Omega.{arith}
use Rattle.shape.proofs.Accepted.{shape_accepted}
use Rattle.code.proofs.Accepted.{open_accepted}
use borrow.Author.Rules.{rules}
use Rattle.rows.proofs.Rows.{low_replicate}
use Rattle.tables.specs.Tables.{table_size}
use Rattle.opening.specs.Steps.{Readable}
use Rattle.opening.proofs.Judged.{readable}
use Rattle.opening.proofs.open_data.Goals as goal
use Rattle.opening.proofs.open_data.Goals.{Start}

-- what is known of the input
read : (c : Start) → let a = c.args in Readable a.s a.list.now a.symbols.now
read c = readable _ _ _ _ _ c.requires

pub all_data-requires : goal.all_data-requires
all_data-requires c = omega (arith, (read (goal.at.all_data-requires c).Start).count, (shape_accepted _ (read (goal.at.all_data-requires c).Start).shape).k_low)

pub copy_data-requires : goal.copy_data-requires
copy_data-requires c = let w = open_accepted _ _ _ _ _ c.requires in omega (arith, w.fits, w.long)

pub shape_of-transcript-then-all_data : goal.shape_of-transcript-then-all_data
shape_of-transcript-then-all_data c = (c.copy_data.ensures _ _ c.requires (c.all_data.ensures c.if-all_data.true)).long

pub returns-then-all_data : goal.returns-then-all_data
returns-then-all_data c = c.copy_data.ensures _ _ c.requires (c.all_data.ensures c.if-all_data.true)

pub marks-marked-requires : goal.marks-marked-requires
marks-marked-requires c = omega (arith, (shape_accepted _ (read (goal.at.marks-marked-requires c).Start).shape).n_high)

pub pays-requires : goal.pays-requires
pays-requires c = omega (arith, (shape_accepted _ (read (goal.at.pays-requires c).Start).shape).n_high)

pub represent-requires : goal.represent-requires
represent-requires c =
    let r = read (goal.at.represent-requires c).Start in
    let w = shape_accepted _ r.shape in
    (w.n_high, omega (arith, w.k_high), c.pays.ensures (search rules), r.up, c.marks-marked.ensures, search rules, low_replicate _ table_size 0 (omega arith))

pub shape_of-transcript : goal.shape_of-transcript
shape_of-transcript c = c.judge_and_store-2.ensures.long

pub returns : goal.returns
returns c = c.judge_and_store-2.ensures
