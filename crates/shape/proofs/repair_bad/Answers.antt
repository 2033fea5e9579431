-- `shape::repair_bad` meets its contract: h, the two lists and their overlap in turn. Assumes nothing.
use mathlib.Core.Path.{◌≡◌, sym, ◌∙◌}
use mathlib.Core.Bool.{true}
use native.Mathlib.Omega.{arith}
use Prim.Native.Nat.{◌-◌}
use lib.ListN.{length}
use Rattle.shape.specs.Shape.{within}
use Rattle.shape.specs.Refusals.{repair_bad}
use Rattle.shape.proofs.Accepted.{Shaped, shape_accepted}
use Rattle.shape.proofs.repair_bad.Goals as goal
use Rattle.shape.proofs.repair_bad.Goals.{Else-not-within, Start}

shaped : (c : Start) → Shaped c.args.s
shaped c = shape_accepted _ c.requires

pub overflow_sub-n : goal.overflow_sub-n
overflow_sub-n c = omega (arith, shaped (goal.at.overflow_sub-n c).Start)

pub overflow_sub-n-2 : goal.overflow_sub-n-2
overflow_sub-n-2 c = omega (arith, shaped (goal.at.overflow_sub-n-2 c).Start)

pub returns-then-not-within : goal.returns-then-not-within
unfolding repair_bad
returns-then-not-within c = simp (sym c.within.ensures, c.if-not-within.true)

-- h is in its range where the first test is passed
ranged : (c : Else-not-within) →
    let a = c.args in
    within 1 (a.s.n - a.s.k - 1) (length a.dead.now) ≡ true
ranged c = sym c.within.ensures ∙ c.if-not-within.false

pub overflow_add-k : goal.overflow_add-k
overflow_add-k c = omega (arith, shaped (goal.at.overflow_add-k c).Start)

pub returns-then-nodes_bad : goal.returns-then-nodes_bad
unfolding repair_bad
returns-then-nodes_bad c =
    simp (ranged (goal.at.returns-then-nodes_bad c).Else-not-within, sym c.nodes_bad.ensures, sym c.nodes_bad-2.ensures, c.if-nodes_bad.true)

pub returns : goal.returns
unfolding repair_bad
returns c =
    simp
    (ranged (goal.at.returns c).Else-not-within, sym c.nodes_bad.ensures, sym c.nodes_bad-2.ensures, c.if-nodes_bad.false, sym c.apart.ensures)
