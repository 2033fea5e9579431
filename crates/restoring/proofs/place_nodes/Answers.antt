-- `restoring::place_nodes` meets its contract. Assumes nothing.
use mathlib.Core.Path.{◌≡◌, refl}
use Prim.Native.Nat.{◌+◌, ◌-◌, ◌*◌, ◌≤◌}
use native.Mathlib.Nat.{mul-le-mul_right}
use native.Mathlib.Omega.{arith}
use lib.ListN.{length, get_or}
use Rattle.lists.proofs.Members.{rising_below}
use Rattle.restoring.proofs.Placing.{listed_none, listed_more}
use borrow.Author.Rules.{rules}
use Rattle.restoring.proofs.place_nodes.Goals as goal
use Rattle.restoring.proofs.place_nodes.Goals.{In-loop-j}

pub loop-j-init : goal.loop-j-init
loop-j-init c =
    (search rules, listed_none _ _ _ _ c.requires.0 _)

-- row j lies among the symbols handed in, and the row of listed node j among the nodes
room : (c : In-loop-j) →
    let s = c.args in
    let j = c.loop-j.j in
    (j * s.each + s.each ≤ length s.symbols.now) × (get_or s.list.now j 0 * s.each + s.each ≤ length s.nodes.now)
room c =
    let j = c.loop-j.j in (
      omega (arith, c.requires.1, mul-le-mul_right c.args.each (let z : j + 1 ≤ length c.args.list.now = omega arith in z)),
      omega (
        arith,
        c.requires.2,
        mul-le-mul_right c.args.each
            (let z : get_or c.args.list.now j 0 + 1 ≤ c.args.n = omega (arith, rising_below c.args.n c.args.list.now c.requires.0 j (omega arith)) in z),
      ),
    )

pub overflow_mul-j : goal.overflow_mul-j
overflow_mul-j c =
    omega (arith, (room (goal.at.overflow_mul-j c).In-loop-j).0)

pub overflow_mul-node : goal.overflow_mul-node
overflow_mul-node c =
    omega (arith, (room (goal.at.overflow_mul-node c).In-loop-j).1)

pub copy-requires : goal.copy-requires
copy-requires c =
    ((room (goal.at.copy-requires c).In-loop-j).0, omega (arith, (room (goal.at.copy-requires c).In-loop-j).1, c.loop-j.invariant.1.long))

pub loop-j-preserved : goal.loop-j-preserved
loop-j-preserved c =
    let l = c.loop-j in
    (search rules, listed_more _ _ _ _ c.requires.0 l.j _ _ _ (omega arith) l.invariant.1 c.copy.ensures)

pub shape_of-nodes : goal.shape_of-nodes
shape_of-nodes c =
    c.loop-j.invariant.1.long

pub returns : goal.returns
returns c =
    let l = c.loop-j in
    let e : l.j ≡ length c.args.list.now = omega arith in
    rw (← e) l.invariant.1
