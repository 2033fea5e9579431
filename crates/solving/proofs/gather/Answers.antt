-- `solving::gather` meets its contract: each helper has a row of its own. Assumes nothing.
use Prim.Native.Nat.{◌+◌, ◌*◌, ◌≤◌}
use native.Mathlib.Nat.{mul-le-mul_right}
use native.Mathlib.Omega.{arith}
use lib.ListN.{length, get_or}
use Rattle.lists.proofs.Members.{rising_below}
use Rattle.rows.specs.Rows.{most_places}
use Rattle.solving.specs.Solving.{sent_size}
use Rattle.solving.proofs.Entries.{gathered_more}
use Rattle.solving.proofs.gather.Goals as goal
use Rattle.solving.proofs.gather.Goals.{In-loop-j}

-- the row lies in its buffer, and the sums in the messages
room : (c : In-loop-j) →
    let a = c.args in
    let j = c.loop-j.j in
    (j * a.g.share + a.first + a.run ≤ length a.messages.now) × (get_or a.helpers.now j 0 * most_places + a.run ≤ sent_size)
room c =
    let j = c.loop-j.j in
    let l = c.loop-j-test.true in
    (omega (arith, c.requires.4, c.requires.3, mul-le-mul_right c.args.g.share (let z : j + 1 ≤ length c.args.helpers.now = omega (arith, l) in z)), omega (arith, c.requires.0, c.requires.2, rising_below c.args.g.shape.n c.args.helpers.now c.requires.1 j l))

pub overflow_mul-helper : goal.overflow_mul-helper
overflow_mul-helper c = omega (arith, room (goal.at.overflow_mul-helper c).In-loop-j)

pub copy-requires : goal.copy-requires
copy-requires c = let r = room (goal.at.copy-requires c).In-loop-j in (omega (arith, r.0), omega (arith, r.1, c.loop-j.invariant.long))

pub loop-j-preserved : goal.loop-j-preserved
loop-j-preserved c =
    let l = c.loop-j in
    gathered_more _ _ c.requires.0 c.requires.1 _ _ _ c.requires.2 _ l.j _ _ c.loop-j-test.true l.invariant c.copy.ensures
