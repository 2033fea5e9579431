-- `column_test::progression` meets its contract. Assumes nothing.
use Rattle.std.proofs.Common.{◌≡◌, ◌*◌, ◌-◌, ◌≤◌, refl, length, arith}
use native.Mathlib.Nat.{mul-le-mul}
use Rattle.lists.proofs.Stores.{stored_more}
use Rattle.lists.proofs.Tables.{is_tabulate}
use Rattle.column.specs.Solving.{most_entries}
use Rattle.column_test.specs.Progression.{stepped}
use Rattle.column_test.proofs.progression.Goals as goal
use Rattle.column_test.proofs.progression.Goals.{In-loop-i}

small : (c : In-loop-i) → c.loop-i.i * c.args.step ≤ (most_entries - 1) * 18
small c = mul-le-mul {n₁ = c.loop-i.i} {m₁ = c.args.step} {n₂ = most_entries - 1} {m₂ = 18} (omega arith) (omega arith)

pub overflow_mul-point : goal.overflow_mul-point
overflow_mul-point c = omega (arith, small (goal.at.overflow_mul-point c).In-loop-i)

pub overflow_add-point : goal.overflow_add-point
overflow_add-point c = omega (arith, small (goal.at.overflow_add-point c).In-loop-i)

pub loop-i-preserved : goal.loop-i-preserved
unfolding stepped
loop-i-preserved c = let l = c.loop-i in stored_more (λ k x. x ≡ stepped c.args.base c.args.step k) l.points l.i _ 0 (omega arith) l.invariant refl

pub returns : goal.returns
returns c =
    let l = c.loop-i in
    let n : length l.points ≡ length c.args.points.now = omega arith in
    is_tabulate l.points (length c.args.points.now) (stepped c.args.base c.args.step) 0 n (λ i h. l.invariant i (omega arith))
