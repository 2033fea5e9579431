-- `correcting::change_checks` meets its contract: one check node more. Assumes nothing.
use mathlib.Core.Path.{◌≡◌}
use Prim.Native.Nat.{◌+◌, ◌*◌, ◌<◌}
use native.Mathlib.Omega.{arith}
use lib.Arith.{digits_lt}
use Rattle.shape.specs.Shape.{most_nodes, size}
use Rattle.shape.proofs.Accepted.{shape_accepted}
use Rattle.correcting.proofs.Changing.{changed_none, changed_more}
use Rattle.correcting.proofs.change_checks.Goals as goal
use Rattle.correcting.proofs.change_checks.Goals.{At-loop-i}

pub loop-i-init : goal.loop-i-init
loop-i-init c =
    (omega arith, omega (arith, (shape_accepted _ c.requires.0).k_high), changed_none _ _ _ _ _)

-- the symbol that is changed stands among the nodes
room : (c : At-loop-i) → let a = c.args in c.loop-i.i < a.s.n → c.loop-i.i * c.size-each.result + a.place < a.s.n * size a.s
room c l = rw c.size-each.ensures (digits_lt l c.requires.1)

pub overflow_mul-i : goal.overflow_mul-i
overflow_mul-i c = omega (arith, room (goal.at.overflow_mul-i c).At-loop-i c.loop-i-test.true)

few : (c : At-loop-i) → c.loop-i.i < c.args.s.n → c.loop-i.i < most_nodes
few c l = omega (arith, (shape_accepted _ c.requires.0).n_high)

pub add_to-requires : goal.add_to-requires
add_to-requires c = omega (arith, room (goal.at.add_to-requires c).At-loop-i c.loop-i-test.true, c.loop-i.invariant.2.long, c.requires.2)

pub loop-i-preserved : goal.loop-i-preserved
loop-i-preserved c =
    let d = (goal.at.loop-i-preserved c).At-loop-i in
    let l = d.loop-i in (
      omega arith,
      omega arith,
      rw c.add_to.ensures
          (changed_more _ _ _ _ _ l.i _ (omega arith) (rw d.size-each.ensures d.requires.1) (omega (arith, room d c.loop-i-test.true, d.requires.2)) l.invariant.2),
    )

pub returns : goal.returns
returns c =
    let l = c.loop-i in
    let e : l.i ≡ c.args.s.n = omega arith in
    rw (← c.size-each.ensures, ← e) l.invariant.2

pub overflow_add-i : goal.overflow_add-i
overflow_add-i c = omega (arith, room (goal.at.overflow_add-i c).At-loop-i c.loop-i-test.true)

pub offset_bounds-by-i : goal.offset_bounds-by-i
offset_bounds-by-i c = omega (arith, few (goal.at.offset_bounds-by-i c).At-loop-i c.loop-i-test.true)

pub bounds-by-i : goal.bounds-by-i
bounds-by-i c = few (goal.at.bounds-by-i c).At-loop-i c.loop-i-test.true

pub shape_of-nodes : goal.shape_of-nodes
shape_of-nodes c = c.loop-i.invariant.2.long
