-- `plan::write_nodes` meets its contract: the line of the first cause, or the plan. Assumes nothing.
use mathlib.Core.Path.{◌≡◌, sym, ap, ◌∙◌}
use Prim.Native.Nat.{◌-◌}
use native.Mathlib.Omega.{arith}
use lib.ListN.{length, take, drop}
use Rattle.shape.specs.Refusals.{answer_number}
use Rattle.transfers.specs.Plan.{lists_number}
use Rattle.transfers.proofs.Room.{lists_accepted}
use Rattle.plan.proofs.Exits.{puts_as, front_length, behind_dead, nodes_refused, nodes_planned}
use Rattle.plan.proofs.write_nodes.Goals as goal
use Rattle.plan.proofs.write_nodes.Goals.{In_default}

pub slice_bounds-dead-end : goal.slice_bounds-dead-end
slice_bounds-dead-end c = front_length _ _ c.requires.1

pub judge_lists-requires : goal.judge_lists-requires
judge_lists-requires c =
    (c.requires.0, omega (arith, c.requires, front_length _ c.args.nodes.now c.requires.1))

pub returns-in-Err : goal.returns-in-Err
returns-in-Err c =
    puts_as
    (nodes_refused _ _ c.args.nodes.now _ _ (behind_dead c.args.nodes.now c.args.h) _ (ap answer_number (sym c.in-Err.is) ∙ c.judge_lists.ensures))
    c.write_refusal.ensures

-- where nothing is refused
taken : (c : In_default) →
    let a = c.args in
    lists_number a.s (take a.h a.nodes.now) (take (length a.nodes.now - a.h) (drop a.h a.nodes.now)) a.left ≡ 0
taken c = sym c.judge_lists.ensures ∙ ap answer_number c.in_default.is

pub write_plan-requires : goal.write_plan-requires
write_plan-requires c =
    (lists_accepted _ _ _ _ c.requires.0 (taken (goal.at.write_plan-requires c).In_default), c.requires.3)

pub returns : goal.returns
returns c =
    puts_as (nodes_planned _ _ c.args.nodes.now _ _ (behind_dead c.args.nodes.now c.args.h) (taken (goal.at.returns c).In_default)) c.write_plan.ensures
