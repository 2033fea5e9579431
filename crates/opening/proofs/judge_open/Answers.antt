-- `opening::judge_open` meets its contract: the causes in turn. Assumes nothing.
use mathlib.Core.Path.{◌≡◌, sym, ◌∙◌}
use mathlib.Core.Bool.{false}
use native.Mathlib.Omega.{arith}
use native.Mathlib.Nat.{mul-le-mul}
use Rattle.shape.specs.Refusals.{shape_bad, wrong_length}
use Rattle.shape.proofs.Accepted.{shape_accepted}
use Rattle.code.specs.Refusals.{open_input_refusal}
use Rattle.opening.proofs.judge_open.Goals as goal
use Rattle.opening.proofs.judge_open.Goals.{Else-shape_bad}

pub returns-then-shape_bad : goal.returns-then-shape_bad
unfolding open_input_refusal
returns-then-shape_bad c = simp (sym c.shape_bad.ensures, c.if-shape_bad.true)

good : (c : Else-shape_bad) → shape_bad c.args.s ≡ false
good c = sym c.shape_bad.ensures ∙ c.if-shape_bad.false

pub returns-then-nodes_bad : goal.returns-then-nodes_bad
unfolding open_input_refusal
returns-then-nodes_bad c = simp (good (goal.at.returns-then-nodes_bad c).Else-shape_bad, sym c.nodes_bad.ensures, c.if-nodes_bad.true)

pub size-requires : goal.size-requires
size-requires c = good (goal.at.size-requires c).Else-shape_bad

pub overflow_mul-due : goal.overflow_mul-due
overflow_mul-due c =
    let shaped = shape_accepted _ (good (goal.at.overflow_mul-due c).Else-shape_bad) in
    rw c.size.ensures (omega (arith, mul-le-mul shaped.k_high shaped.size_high))

pub returns-then-symbols-due : goal.returns-then-symbols-due
unfolding open_input_refusal wrong_length
returns-then-symbols-due c =
    simp (good (goal.at.returns-then-symbols-due c).Else-shape_bad, sym c.nodes_bad.ensures, c.if-nodes_bad.false, sym c.size.ensures, c.if-symbols-due.true)

pub returns-then-symbol_bad : goal.returns-then-symbol_bad
unfolding open_input_refusal wrong_length
returns-then-symbol_bad c =
    simp
    (good (goal.at.returns-then-symbol_bad c).Else-shape_bad, sym c.nodes_bad.ensures, c.if-nodes_bad.false, sym c.size.ensures, c.if-symbols-due.false, sym c.symbol_bad.ensures, c.if-symbol_bad.true)

pub returns : goal.returns
unfolding open_input_refusal wrong_length
returns c =
    simp
    (good (goal.at.returns c).Else-shape_bad, sym c.nodes_bad.ensures, c.if-nodes_bad.false, sym c.size.ensures, c.if-symbols-due.false, sym c.symbol_bad.ensures, c.if-symbol_bad.false)
