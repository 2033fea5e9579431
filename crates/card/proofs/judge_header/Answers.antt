-- `card::judge_header` meets its contract: each test is the definition's, in its order.
use mathlib.Core.Path.{◌≡◌, sym, ap, ◌∙◌}
use mathlib.Core.Bool.{true, false, not}
use Prim.Native.Nat.{◌*◌, ◌≤◌, ◌<◌}
use native.Mathlib.Omega.{arith}
use borrow.Author.Rules.{rules}
use borrow.Author.Tests.{eq-eqb, ne_eqb}
use Rattle.shape.specs.Refusals.{shape_bad, wrong_length}
use Rattle.shape.proofs.Accepted.{shape_accepted}
use Rattle.card.specs.Cards.{hearing_bad}
use Rattle.card.proofs.Judging.{capacity_high, head_shape, head_node, head_length, head_hearing, head_count, head_good}
use Rattle.card.proofs.judge_header.Goals as goal
use Rattle.card.proofs.judge_header.Goals.{Else-shape_bad}

-- where the shape is judged
good : (c : Else-shape_bad) → shape_bad c.args.header.shape ≡ false
good c = sym c.shape_bad.ensures ∙ c.if-shape_bad.false

pub returns-then-shape_bad : goal.returns-then-shape_bad
returns-then-shape_bad c = sym (head_shape _ _ _ _ (sym c.shape_bad.ensures ∙ c.if-shape_bad.true))

pub size-size-requires : goal.size-size-requires
size-size-requires c = good c

pub overflow_mul-length_bad : goal.overflow_mul-length_bad
overflow_mul-length_bad c = rw c.size-size.ensures (omega (arith, capacity_high _ (shape_accepted _ (good (goal.at.overflow_mul-length_bad c).Else-shape_bad))))

pub returns-then-node_bad : goal.returns-then-node_bad
returns-then-node_bad c = sym (head_node _ _ _ _ (good (goal.at.returns-then-node_bad c).Else-shape_bad) c.if-node_bad.true)

pub returns-then-length_bad : goal.returns-then-length_bad
returns-then-length_bad c =
    let low : c.args.header.node < c.args.header.shape.n = search rules in
    sym (head_length _ _ _ _ (good (goal.at.returns-then-length_bad c).Else-shape_bad) low (rw c.size-size.ensures at c.if-length_bad.true))

pub returns-then-hearing_bad : goal.returns-then-hearing_bad
unfolding hearing_bad
returns-then-hearing_bad c =
    let low : c.args.header.node < c.args.header.shape.n = search rules in
    let short : c.args.header.len ≤ c.args.header.shape.k * c.size-size.result = search rules in
    sym (head_hearing _ _ _ _ (good (goal.at.returns-then-hearing_bad c).Else-shape_bad) low (rw c.size-size.ensures at short) (ap not (sym c.within-hearing_bad.ensures ∙ c.if-hearing_bad.true)))

pub returns-then-count_bad : goal.returns-then-count_bad
unfolding wrong_length hearing_bad
returns-then-count_bad c =
    let low : c.args.header.node < c.args.header.shape.n = search rules in
    let short : c.args.header.len ≤ c.args.header.shape.k * c.size-size.result = search rules in
    let heard : c.within-hearing_bad.result ≡ true = search rules in
    sym (head_count _ _ _ _ (good (goal.at.returns-then-count_bad c).Else-shape_bad) low (rw c.size-size.ensures at short) (ap not (sym c.within-hearing_bad.ensures ∙ heard))
    (ap not (ne_eqb _ _ (rw c.size-size.ensures at c.if-count_bad.true))))

pub returns : goal.returns
unfolding wrong_length hearing_bad
returns c =
    sym (head_good _ _ _ _ (good (goal.at.returns c).Else-shape_bad) c.if-node_bad.false (rw c.size-size.ensures at c.if-length_bad.false) (ap not (sym c.within-hearing_bad.ensures ∙ c.if-hearing_bad.false))
    (ap not (eq-eqb _ _ (rw c.size-size.ensures at c.if-count_bad.false))))
