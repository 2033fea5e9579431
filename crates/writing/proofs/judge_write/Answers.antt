-- `writing::judge_write` meets its contract: the causes in turn. Assumes nothing.
use mathlib.Core.Path.{◌≡◌, sym, ◌∙◌}
use mathlib.Core.Bool.{false}
use native.Mathlib.Omega.{arith}
use native.Mathlib.Nat.{mul-le-mul}
use Rattle.shape.specs.Refusals.{shape_bad, wrong_length}
use Rattle.shape.proofs.Accepted.{shape_accepted}
use Rattle.code.specs.Refusals.{write_refusal}
use Rattle.writing.proofs.judge_write.Goals as goal
use Rattle.writing.proofs.judge_write.Goals.{Else-shape_bad}

pub returns-then-shape_bad : goal.returns-then-shape_bad
unfolding write_refusal
returns-then-shape_bad c = simp (sym c.shape_bad.ensures, c.if-shape_bad.true)

good : (c : Else-shape_bad) → shape_bad c.args.s ≡ false
good c = sym c.shape_bad.ensures ∙ c.if-shape_bad.false

pub size-places-requires : goal.size-places-requires
size-places-requires c = good c

pub overflow_mul-k : goal.overflow_mul-k
overflow_mul-k c =
    let shaped = shape_accepted _ (good (goal.at.overflow_mul-k c).Else-shape_bad) in
    rw c.size-places.ensures (omega (arith, mul-le-mul shaped.k_high shaped.size_high))

pub overflow_mul-n : goal.overflow_mul-n
overflow_mul-n c =
    let shaped = shape_accepted _ (good (goal.at.overflow_mul-n c).Else-shape_bad) in
    rw c.size-places.ensures (omega (arith, mul-le-mul shaped.n_high shaped.size_high))

pub returns-then-k-places : goal.returns-then-k-places
unfolding write_refusal wrong_length
returns-then-k-places c = simp (good (goal.at.returns-then-k-places c).Else-shape_bad, sym c.size-places.ensures, c.if-k-places.true)

pub returns : goal.returns
unfolding write_refusal wrong_length
returns c = simp (good (goal.at.returns c).Else-shape_bad, sym c.size-places.ensures, c.if-k-places.false)
