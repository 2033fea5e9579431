-- `tables::entry_rows` meets its contract. Assumes nothing.
use mathlib.Core.Path.{◌≡◌, refl, ◌∙◌}
use Prim.Native.Nat.{◌+◌, ◌*◌, ◌≤◌}
use native.Mathlib.Omega.{arith}
use lib.ListN.{length}
use Rattle.lists.proofs.Members.{rising_below}
use Rattle.rows.specs.Rows.{most_places}
use Rattle.tables.specs.Tables.{table_size}
use Rattle.tables.proofs.Tables.{rows_none, rows_more, entry_room}
use borrow.Author.Rules.{rules}
use Rattle.tables.proofs.entry_rows.Goals as goal
use Rattle.tables.proofs.entry_rows.Goals.{After-differences-tops}

pub differences-bottoms-requires : goal.differences-bottoms-requires
differences-bottoms-requires c =
    (c.requires.0, c.requires.1, c.requires.2, c.requires.3, c.requires.5)

pub inverses-inverted-requires : goal.inverses-inverted-requires
inverses-inverted-requires c =
    (search rules, c.requires.1, c.differences-bottoms.ensures.long)

pub loop-j-init : goal.loop-j-init
loop-j-init c = (
  refl,
  λ P col w v. rows_none _ _ c.requires.1 _ _ _ c.requires.4 _ c.requires.5 c.requires.7 _ _ c.inverses-inverted.ensures.0 c.differences-bottoms.ensures
      c.inverses-inverted.ensures.1 P col w v _,
)

pub differences-tops-requires : goal.differences-tops-requires
differences-tops-requires c =
    let l = c.loop-j in
    (c.requires.0, c.requires.1, c.requires.2, c.requires.3, rising_below c.args.n c.args.list.now c.requires.4 l.j (omega arith))

-- row i * k + j lies in the table
room : (c : After-differences-tops) →
    (c.args.i * length c.args.list.now + c.loop-j.j) * most_places + c.args.run ≤ table_size
room c =
    entry_room c.args.n (length c.args.list.now) c.args.i c.loop-j.j c.args.run c.requires.8 c.requires.5 (omega arith) c.requires.1

pub overflow_mul-i : goal.overflow_mul-i
overflow_mul-i c =
    omega (arith, room c)

pub overflow_add-i : goal.overflow_add-i
overflow_add-i c =
    omega (arith, room c)

pub overflow_mul-i-in-loop-j : goal.overflow_mul-i-in-loop-j
overflow_mul-i-in-loop-j c =
    omega (arith, room c)

pub quotients-requires : goal.quotients-requires
quotients-requires c =
    let l = c.loop-j in (
      search rules,
      search rules,
      c.requires.1,
      omega (arith, room (goal.at.quotients-requires c).After-differences-tops, l.invariant.0),
      c.differences-tops.ensures.low,
      c.inverses-inverted.ensures.0,
    )

pub loop-j-preserved : goal.loop-j-preserved
loop-j-preserved c =
    let l = c.loop-j in (
      c.quotients.ensures.long ∙ l.invariant.0,
      λ P col w v. rows_more _ _ c.requires.1 _ _ _ c.requires.4 _ c.requires.5 c.requires.7 _ _ c.inverses-inverted.ensures.0 c.differences-bottoms.ensures
          c.inverses-inverted.ensures.1 P col w v l.j _ _ _ _ (omega arith) (l.invariant.1 P col w v) c.differences-tops.ensures c.quotients.ensures,
    )

pub returns : goal.returns
returns c =
    let l = c.loop-j in
    let e : l.j ≡ length c.args.list.now = omega arith in
    rw (← e) (l.invariant.0, l.invariant.1)
