-- `correcting::column_bad` meets its contract: the symbols at the place, looked at one by one. Assumes nothing.
use mathlib.Core.Path.{ap, ◌∙◌}
use mathlib.Core.Bool.{not, ◌&&◌, ◌||◌}
use Prim.Native.Nat.{◌+◌, ◌*◌, ◌<◌}
use native.Mathlib.Omega.{arith}
use borrow.Author.Rules.{rules}
use lib.Arith.{digits_lt}
use lib.Dec.{leb}
use lib.ListN.{length, get_or, drop}
use Rattle.lists.specs.Lists.{all, below}
use Rattle.lists.proofs.Tables.{tabulate_length, tabulate_at}
use Rattle.lists.proofs.Scans.{all_end}
use Rattle.shape.specs.Refusals.{symbol_bad}
use Rattle.shape.proofs.Symbols.{bad_more, bad_all}
use Rattle.correcting.proofs.column_bad.Invariants.{held}
use Rattle.correcting.proofs.column_bad.Goals as goal
use Rattle.correcting.proofs.column_bad.Goals.{In-loop-i}

-- the symbol that is read stands among the nodes
room : (c : In-loop-i) →
    let a = c.args in
    c.loop-i.i * a.each + a.place < length a.nodes.now
room c = omega (arith, c.requires.1, digits_lt (let l : c.loop-i.i < c.args.n = omega arith in l) c.requires.0)

pub loop-i-preserved : goal.loop-i-preserved
loop-i-preserved c =
    let l = c.loop-i in
    let a = c.args in
    let col = held a.n a.each a.place a.nodes.now in (
      search rules,
      bad_more 257 l.i col l.bad (omega (arith, tabulate_length a.n (λ i. get_or a.nodes.now (i * a.each + a.place) 0))) l.invariant.1
          ∙ ap (λ u. not (l.bad || leb 257 u) && all (below 257) (drop (l.i + 1) col)) (tabulate_at a.n (λ i. get_or a.nodes.now (i * a.each + a.place) 0) l.i 0 (omega arith)),
    )

pub returns : goal.returns
unfolding symbol_bad
returns c =
    let l = c.loop-i in
    let a = c.args in
    bad_all _ _ (l.invariant.1 ∙ ap (λ u. not l.bad && u) (all_end _ _ l.i (omega (arith, tabulate_length a.n (λ i. get_or a.nodes.now (i * a.each + a.place) 0)))))

pub overflow_mul-bad : goal.overflow_mul-bad
overflow_mul-bad c = omega (arith, room c)

pub overflow_add-bad : goal.overflow_add-bad
overflow_add-bad c = omega (arith, room c)

pub offset_bounds-nodes-i : goal.offset_bounds-nodes-i
offset_bounds-nodes-i c = omega (arith, room c)

pub bounds-nodes-i : goal.bounds-nodes-i
bounds-nodes-i c = omega (arith, room (goal.at.bounds-nodes-i c).In-loop-i)

pub overflow_cast-bad : goal.overflow_cast-bad
overflow_cast-bad c = omega (arith, c.type_inv.nodes (c.loop-i.i * c.args.each + c.args.place))
