-- The triangle, a row for each equation, each from the one before.
use Rattle.std.proofs.Common.{◌<◌, ◌≤◌, ℕ, List, [], refl, ap, ◌∙◌, length, length-take, arith}
use lib.ListN.{replicate, get_or-replicate, get_or-append}
use Rattle.lists.specs.Lists.{element}
use Rattle.lists.proofs.Stores.{stored_more}
use Rattle.column.specs.Solving.{most_entries}
use Rattle.column.proofs.Elimination.{differences_none_at, differences_next}
use Rattle.column.proofs.triangle.Invariants.{Row}
use Rattle.column.proofs.triangle.Goals as goal

first_row : (q r : ℕ) (points : List ℕ) → r ≤ most_entries → Row q r points 0 (replicate most_entries 1)
first_row q r points few j h = get_or-replicate most_entries j 1 0 (omega arith) ∙ differences_none_at q (element points) (element points j)

pub loop-i-init : goal.loop-i-init
loop-i-init c = (first_row c.args.q c.args.r c.args.points c.requires.1, λ k h. absurd (omega arith))

pub loop-i-preserved : goal.loop-i-preserved
loop-i-preserved c =
    let l = c.loop-i in
    let s = c.args in (
      λ j h. c.next_row-next.ensures.1 j h ∙ differences_next s.q (element s.points) l.i (element s.points j) _ _ (l.invariant.0 j h) refl,
      stored_more (Row s.q s.r s.points) l.factors-items l.i _ [] (omega arith) l.invariant.1 l.invariant.0,
    )

pub returns : goal.returns
returns c = λ i j h k.
    let l = c.loop-i in
    let in_it : i < length l.factors-items = omega (arith, length-take {A = List ℕ}) in
    ap (λ row. element row j) (get_or-append _ _ [] i in_it) ∙ l.invariant.1 i (omega arith) j k
