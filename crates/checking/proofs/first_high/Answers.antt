-- `checking::first_high` meets its contract: no data symbol before this one is above 255. Assumes nothing.
use mathlib.Core.Path.{sym, ◌∙◌}
use Prim.Native.Nat.{◌-◌, ◌*◌, ◌≤◌, ◌<◌}
use native.Mathlib.Omega.{arith}
use native.Mathlib.Nat.{mul-le-mul}
use borrow.Author.Count.{below_more}
use borrow.Author.Rules.{rules}
use lib.ListN.{length}
use lib.Seq.{length-take-le}
use Rattle.shape.specs.Shape.{most_nodes, size}
use Rattle.shape.proofs.Accepted.{most_size}
use Rattle.code.proofs.Accepted.{Checkable, check_accepted}
use Rattle.checking.proofs.Meeting.{check_shape}
use Rattle.checking.proofs.Data.{front_low, low_when, low_seen, high_seen}
use Rattle.checking.proofs.first_high.Goals as goal
use Rattle.checking.proofs.first_high.Goals.{After-size-each, Start, Then-symbol-ge-BYTE_VALUES}

able : (c : Start) → Checkable c.args.s c.args.nodes.now
able c = check_accepted _ _ c.requires

-- the data symbols are the front of all, and few
front : (c : After-size-each) → let a = c.args in
    (a.s.k * c.size-each.result ≤ length a.nodes.now) × (a.s.k * c.size-each.result ≤ most_nodes * most_size)
front c =
    let w = able (goal.at.After-size-each c).Start in
    let s = c.args.s in
    let k : s.k ≤ s.n = omega (arith, w.shaped.k_high) in
    rw c.size-each.ensures (
      omega (arith, w.long, mul-le-mul {n₁ = s.k} {m₁ = size s} {n₂ = s.n} {m₂ = size s} k (omega arith)),
      mul-le-mul {n₁ = s.k} {m₁ = size s} {n₂ = most_nodes} {m₂ = most_size} (omega (arith, w.shaped.n_high)) w.shaped.size_high,
    )

pub size-each-requires : goal.size-each-requires
size-each-requires c = check_shape _ _ c.requires

pub overflow_mul-count : goal.overflow_mul-count
overflow_mul-count c = omega (arith, (front c).1)

pub slice_bounds-data-end : goal.slice_bounds-data-end
slice_bounds-data-end c = sym (length-take-le _ _ (front c).0)

pub returns-then-not-symbol_bad : goal.returns-then-not-symbol_bad
returns-then-not-symbol_bad c =
    let z = (goal.at.returns-then-not-symbol_bad c).After-size-each in
    low_when _ _ (rw (← z.size-each.ensures) (front_low _ _ (front z).0 (sym c.symbol_bad.ensures ∙ c.if-not-symbol_bad.true)))

pub loop-e-init : goal.loop-e-init
loop-e-init c = (search rules, λ x h. absurd (omega arith))

-- a node has symbols
some : (c : Then-symbol-ge-BYTE_VALUES) → 0 < c.size-each.result
some c =
    rw c.size-each.ensures (able (goal.at.Then-symbol-ge-BYTE_VALUES c).Start).shaped.size_low

pub nonzero_div-result : goal.nonzero_div-result
nonzero_div-result c = some c

pub nonzero_rem-result : goal.nonzero_rem-result
nonzero_rem-result c = some c

pub returns-then-symbol-ge-BYTE_VALUES : goal.returns-then-symbol-ge-BYTE_VALUES
returns-then-symbol-ge-BYTE_VALUES c =
    high_seen _ _ _ c.size-each.ensures (front (goal.at.returns-then-symbol-ge-BYTE_VALUES c).After-size-each).0 _ c.loop-e-test.true c.loop-e.invariant.1 c.if-symbol-ge-BYTE_VALUES.true

pub loop-e-preserved : goal.loop-e-preserved
loop-e-preserved c =
    (search rules, below_more _ _ c.loop-e.invariant.1 c.if-symbol-ge-BYTE_VALUES.false)

pub returns : goal.returns
returns c =
    low_seen _ _ _ c.size-each.ensures (front (goal.at.returns c).After-size-each).0 _ c.loop-e-test.false c.loop-e.invariant.1
