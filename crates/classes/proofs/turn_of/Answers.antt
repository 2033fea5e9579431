-- `classes::turn_of` meets its contract: the partner layer and the node's bit, in the numbers of the layout. Assumes nothing.
use mathlib.Core.Path.{ap₂}
use Prim.Native.Nat.{◌*◌, ◌+◌, ◌≤◌, ◌^◌}
use native.Mathlib.Nat.{mul-le-mul}
use native.Mathlib.Omega.{arith}
use lib.Pow.{pow_mono}
use Rattle.shape.specs.Shape.{most_nodes}
use Rattle.classes.specs.Classes.{node}
use Rattle.classes.proofs.Layouts.{bounded, node_high}
use Rattle.classes.proofs.Ranks.{partner_lt}
use Rattle.classes.proofs.turn_of.Goals as goal
use Rattle.classes.proofs.turn_of.Goals.{After-partner, After-two_to}

-- the partner layer's places
high : (c : After-partner) → let g = c.args.g in c.partner.result * g.places ≤ most_nodes * 2 ^ most_nodes
high c =
    let p = c.requires in
    let b = bounded p.0 in
    let a = c.args in
    let l = partner_lt a.dead.now a.u p.1 in
    mul-le-mul {n₂ = most_nodes} {m₂ = 2 ^ most_nodes} (omega (arith, l, c.partner.ensures, p.0.batch_is, b.batch_high)) b.places_high

pub two_to-requires : goal.two_to-requires
unfolding node
two_to-requires c = let p = c.requires in omega (arith, (node_high p.0 _ p.1).1, (bounded p.0).dead_high)

pub overflow_mul-result : goal.overflow_mul-result
overflow_mul-result c = omega (arith, high c)

-- the node's bit
bit_high : (c : After-two_to) → c.two_to.result ≤ 2 ^ most_nodes
unfolding node
bit_high c =
    let p = c.requires in
    rw c.two_to.ensures (pow_mono {j = most_nodes} (let h = (node_high p.0 _ p.1).1 in omega (arith, (bounded p.0).dead_high)))

pub overflow_add-result : goal.overflow_add-result
overflow_add-result c = omega (arith, high (goal.at.overflow_add-result c).After-partner, bit_high c)

pub returns : goal.returns
unfolding node
returns c = ap₂ ◌+◌ (ap₂ ◌*◌ c.partner.ensures c.requires.0.places_is) c.two_to.ensures
