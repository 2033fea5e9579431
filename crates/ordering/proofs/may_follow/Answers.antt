-- `ordering::may_follow` meets its contract: the three tests in turn. Assumes nothing.
use mathlib.Core.Path.{◌≡◌, sym, ◌∙◌}
use mathlib.Core.Bool.{true}
use Prim.Native.Nat.{◌<◌}
use native.Mathlib.Omega.{arith}
use Rattle.shape.specs.Shape.{most_nodes}
use Rattle.ordering.specs.Ordering.{between}
use Rattle.ordering.specs.Following.{in_plan, by_table}
use Rattle.ordering.proofs.Followed.{planned_low, follow_unplanned, follow_again, follow_exchange, follow_message}
use Rattle.ordering.proofs.may_follow.Goals as goal
use Rattle.ordering.proofs.may_follow.Goals.{Else-not-planned}

pub returns-then-not-planned : goal.returns-then-not-planned
returns-then-not-planned c = sym (follow_unplanned _ _ _ _ (sym c.planned.ensures ∙ c.if-not-planned.true))

-- a transfer that is passed is in the plan
listed : (c : Else-not-planned) → let a = c.args in in_plan a.dead.now a.helpers.now (between a.sender a.receiver) ≡ true
listed c = sym c.planned.ensures ∙ c.if-not-planned.false

-- so its nodes are small
low : (c : Else-not-planned) → let a = c.args in (a.sender < most_nodes) × (a.receiver < most_nodes)
low c = planned_low _ _ c.requires.0 c.requires.1 _ (listed c)

pub overflow_mul-sender : goal.overflow_mul-sender
overflow_mul-sender c = omega (arith, (low c).0)

pub overflow_add-sender : goal.overflow_add-sender
overflow_add-sender c = omega (arith, (low c).0, (low c).1)

pub bounds-sent-sender : goal.bounds-sent-sender
bounds-sent-sender c = omega (arith, (low (goal.at.bounds-sent-sender c).Else-not-planned).0, (low (goal.at.bounds-sent-sender c).Else-not-planned).1)

pub returns-then-sent-sender : goal.returns-then-sent-sender
unfolding by_table
returns-then-sent-sender c = sym (follow_again _ _ _ _ (listed (goal.at.returns-then-sent-sender c).Else-not-planned) c.if-sent-sender.true)

pub all_sent-requires : goal.all_sent-requires
all_sent-requires c = let e = (goal.at.all_sent-requires c).Else-not-planned in (e.requires.1, (low e).0)

pub returns-then-listed : goal.returns-then-listed
unfolding by_table
returns-then-listed c =
    c.all_sent.ensures ∙ sym (follow_exchange _ _ _ _ (listed (goal.at.returns-then-listed c).Else-not-planned) c.if-sent-sender.false (sym c.listed.ensures ∙ c.if-listed.true))

pub returns : goal.returns
unfolding by_table
returns c =
    sym (follow_message _ _ _ _ (listed (goal.at.returns c).Else-not-planned) c.if-sent-sender.false (sym c.listed.ensures ∙ c.if-listed.false))
