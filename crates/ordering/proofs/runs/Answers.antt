-- `ordering::runs` meets its contract: each transfer so far may follow those before it, and the table has what they have sent. Assumes nothing.
use mathlib.Core.Path.{◌≡◌, sym, ap, subst, ◌∙◌}
use mathlib.Core.Bool.{true}
use Prim.Native.Nat.{◌+◌, ◌*◌, ◌/◌, ◌<◌}
use native.Mathlib.Omega.{arith}
use lib.ListN.{length, get_or, take, set}
use Rattle.lists.proofs.Tests.{each_more}
use Rattle.shape.specs.Shape.{most_nodes}
use Rattle.shape.proofs.Accepted.{Repairable, shape_accepted, repair_accepted}
use Rattle.transfers.specs.Plan.{transfers, most_transfers}
use Rattle.transfers.proofs.Transfers.{transfers_count}
use Rattle.transfers.proofs.Room.{senders_high, count_high}
use Rattle.ordering.specs.Ordering.{between, pairs, at}
use Rattle.ordering.specs.Following.{by_list, may_follow, Sent, Nodes}
use Rattle.ordering.proofs.Followed.{nodes_low, planned_low, follow_planned, follow_yes, follow_no, length_no, sent_none, sent_more, table_follow}
use Rattle.ordering.proofs.Promised.{pairs_length, pairs_at}
use Rattle.ordering.proofs.runs.Goals as goal
use Rattle.ordering.proofs.runs.Goals.{After-may_follow, Else-not-may_follow, Else-numbers-count, In-loop-x, Start}

-- the lists of an accepted repair, and its nodes
accepted : (c : Start) → let a = c.args in Repairable a.s a.dead.now a.helpers.now
accepted c = repair_accepted _ _ _ c.requires.lists

low : (c : Start) → let a = c.args in Nodes a.dead.now × Nodes a.helpers.now
low c =
    let n = (shape_accepted _ c.requires.shape).n_high in
    (nodes_low _ _ n (accepted c).dead_rising, nodes_low _ _ n (accepted c).helpers_rising)

pub overflow_add-count : goal.overflow_add-count
overflow_add-count c = omega (arith, senders_high _ _ _ c.requires)

pub overflow_mul-count : goal.overflow_mul-count
overflow_mul-count c = omega (arith, count_high _ _ _ c.requires)

pub returns-then-numbers-count : goal.returns-then-numbers-count
returns-then-numbers-count c =
    let s = (goal.at.returns-then-numbers-count c).Start in
    sym (length_no _ _ _ (accepted s) _ (λ e. c.if-numbers-count.true (sym (pairs_length _) ∙ e ∙ transfers_count _ _ _ (accepted s))))

-- a list that is gone through is as long as the plan
long : (c : Else-numbers-count) →
    let a = c.args in
    length (pairs a.numbers.now) ≡ length (transfers a.dead.now a.helpers.now)
long c = pairs_length _ ∙ c.if-numbers-count.false ∙ sym (transfers_count _ _ _ (accepted (goal.at.Else-numbers-count c).Start))

pub loop-x-init : goal.loop-x-init
loop-x-init c = (omega arith, sent_none, λ y l. absurd (omega arith))

-- transfer x stands in it
inside : (c : In-loop-x) → c.loop-x.x < length c.args.numbers.now / 2
inside c = subst (λ z. c.loop-x.x < z) (sym c.if-numbers-count.false) c.loop-x-test.true

within : (c : In-loop-x) → c.loop-x.x < length (pairs c.args.numbers.now)
within c = subst (λ z. c.loop-x.x < z) (sym (pairs_length c.args.numbers.now)) (inside c)

few : (c : In-loop-x) → c.loop-x.x < most_transfers
few c = omega (arith, c.loop-x-test.true, count_high _ _ _ c.requires)

pub offset_bounds-numbers-x : goal.offset_bounds-numbers-x
offset_bounds-numbers-x c = omega (arith, few c)

pub bounds-numbers-x : goal.bounds-numbers-x
bounds-numbers-x c = omega (arith, inside (goal.at.bounds-numbers-x c).In-loop-x)

pub overflow_mul-receiver : goal.overflow_mul-receiver
overflow_mul-receiver c = omega (arith, few (goal.at.overflow_mul-receiver c).In-loop-x)

pub overflow_add-receiver : goal.overflow_add-receiver
overflow_add-receiver c = omega (arith, few (goal.at.overflow_add-receiver c).In-loop-x)

pub offset_bounds-numbers-x-in-loop-x : goal.offset_bounds-numbers-x-in-loop-x
offset_bounds-numbers-x-in-loop-x c = omega (arith, few (goal.at.offset_bounds-numbers-x-in-loop-x c).In-loop-x)

pub bounds-numbers-x-in-loop-x : goal.bounds-numbers-x-in-loop-x
bounds-numbers-x-in-loop-x c = omega (arith, inside (goal.at.bounds-numbers-x-in-loop-x c).In-loop-x)

pub may_follow-requires : goal.may_follow-requires
may_follow-requires c = low (goal.at.may_follow-requires c).Start

-- what the two numbers there make
read : (c : In-loop-x) →
    let l = c.loop-x in
    let numbers = c.args.numbers.now in
    at (pairs numbers) l.x ≡ between (get_or numbers (l.x * 2) 0) (get_or numbers (l.x * 2 + 1) 0)
read c = pairs_at _ _ (inside c)

-- whether it may follow those before it
told : (c : After-may_follow) →
    let a = c.args in
    may_follow a.dead.now a.helpers.now (by_list (take c.loop-x.x (pairs a.numbers.now))) (at (pairs a.numbers.now) c.loop-x.x) ≡ c.may_follow.result
told c =
    let i = (goal.at.After-may_follow c).In-loop-x in
    let d = low (goal.at.After-may_follow c).Start in
    ap (may_follow _ _ (by_list (take i.loop-x.x (pairs i.args.numbers.now)))) (read i)
    ∙ sym (table_follow _ _ d.0 d.1 _ _ _ i.loop-x.invariant.1) ∙ sym c.may_follow.ensures

pub returns-then-not-may_follow : goal.returns-then-not-may_follow
returns-then-not-may_follow c =
    let i = (goal.at.returns-then-not-may_follow c).In-loop-x in
    let s = (goal.at.returns-then-not-may_follow c).Start in
    sym (follow_no _ _ _ (accepted s) _ _ (within i) (told (goal.at.returns-then-not-may_follow c).After-may_follow ∙ c.if-not-may_follow.true))

-- one that may is in the plan, and its nodes are small
follows : (c : Else-not-may_follow) →
    let a = c.args in
    may_follow a.dead.now a.helpers.now (by_list (take c.loop-x.x (pairs a.numbers.now))) (at (pairs a.numbers.now) c.loop-x.x) ≡ true
follows c = told (goal.at.Else-not-may_follow c).After-may_follow ∙ c.if-not-may_follow.false

small : (c : Else-not-may_follow) →
    let t = at (pairs c.args.numbers.now) c.loop-x.x in
    (t.sender < most_nodes) × (t.receiver < most_nodes)
small c =
    let d = low (goal.at.Else-not-may_follow c).Start in
    planned_low _ _ d.0 d.1 _ (follow_planned _ _ _ _ (follows c))

-- by the numbers that were read
small_read : (c : Else-not-may_follow) →
    let numbers = c.args.numbers.now in
    (get_or numbers (c.loop-x.x * 2) 0 < most_nodes) × (get_or numbers (c.loop-x.x * 2 + 1) 0 < most_nodes)
small_read c = subst (λ t. (t.sender < most_nodes) × (t.receiver < most_nodes)) (read (goal.at.Else-not-may_follow c).In-loop-x) (small c)

pub overflow_mul-sent : goal.overflow_mul-sent
overflow_mul-sent c = omega (arith, (small_read c).0)

pub overflow_add-sent : goal.overflow_add-sent
overflow_add-sent c = omega (arith, (small_read c).0, (small_read c).1)

pub bounds-sent-sender : goal.bounds-sent-sender
bounds-sent-sender c = omega (arith, (small_read c).0, (small_read c).1)

pub loop-x-preserved : goal.loop-x-preserved
loop-x-preserved c =
    let i = (goal.at.loop-x-preserved c).In-loop-x in
    let l = i.loop-x in
    let list = pairs i.args.numbers.now in (
      omega (arith, i.loop-x-test.true),
      subst (λ t. Sent (take (l.x + 1) list) (set l.sent (t.sender * most_nodes + t.receiver) true)) (read i)
          (sent_more list l.x (within i) l.sent l.invariant.1 (small c).0 (small c).1),
      each_more _ l.x l.invariant.2 (follows c),
    )

pub returns : goal.returns
returns c =
    let s = (goal.at.returns c).Start in
    let n = long (goal.at.returns c).Else-numbers-count in
    sym (follow_yes _ _ _ (accepted s) _ n (λ x h. c.loop-x.invariant.2 x (omega (arith, c.loop-x-test.false, n, transfers_count _ _ _ (accepted s)))))

pub overflow_mul-sender : goal.overflow_mul-sender
overflow_mul-sender c = omega (arith, few c)
