-- `correcting::judge_correct` meets its contract: the causes in turn. Assumes nothing.
use mathlib.Core.Path.{◌≡◌, sym, ap, ◌∙◌}
use mathlib.Core.Bool.{false}
use Prim.Native.Nat.{◌*◌, ◌≤◌, ◌<◌}
use native.Mathlib.Nat.{mul-le-mul, mul-le-mul_right, mod-lt}
use native.Mathlib.Omega.{arith}
use borrow.Author.Rules.{rules}
use borrow.Author.Tests.{le-ltb, lt-ltb, ltb-false, eqb-true, not-false}
use lib.ListN.{length}
use mir.Facts.{to_z-of_z}
use Rattle.lists.proofs.Tests.{neither}
use Rattle.shape.specs.Shape.{most_nodes}
use Rattle.shape.specs.Refusals.{refuse, shape_bad, wrong_length}
use Rattle.shape.proofs.Accepted.{Shaped, shape_accepted}
use Rattle.code.specs.Code.{narrow}
use Rattle.code.specs.Archive.{symbol, column}
use Rattle.correcting.specs.Signed.{change_bad}
use Rattle.correcting.specs.Correcting.{correct_refusal}
use Rattle.correcting.proofs.judge_correct.Goals as goal
use Rattle.correcting.proofs.judge_correct.Goals.{After-change_bad-unfit, After-size-each, Else-length-byte, Else-shape_bad}

pub returns-then-shape_bad : goal.returns-then-shape_bad
unfolding correct_refusal
returns-then-shape_bad c = simp (sym c.shape_bad.ensures, c.if-shape_bad.true)

good : (c : Else-shape_bad) → shape_bad c.args.s ≡ false
good c = sym c.shape_bad.ensures ∙ c.if-shape_bad.false

sized : (c : After-size-each) → Shaped c.args.s
sized c = shape_accepted _ (good (goal.at.After-size-each c).Else-shape_bad)

pub overflow_mul-n : goal.overflow_mul-n
overflow_mul-n c = rw c.size-each.ensures (omega (arith, mul-le-mul (sized c).n_high (sized c).size_high))

pub overflow_mul-k : goal.overflow_mul-k
overflow_mul-k c = rw c.size-each.ensures (omega (arith, mul-le-mul (let h : c.args.s.k ≤ most_nodes = omega (arith, (sized c).k_high, (sized c).n_high) in h) (sized c).size_high))

pub returns-then-nodes-n : goal.returns-then-nodes-n
unfolding correct_refusal wrong_length
returns-then-nodes-n c = simp (good (goal.at.returns-then-nodes-n c).Else-shape_bad, sym c.size-each.ensures, c.if-nodes-n.true)

pub returns-then-length-byte : goal.returns-then-length-byte
unfolding correct_refusal wrong_length
returns-then-length-byte c =
    simp (good (goal.at.returns-then-length-byte c).Else-shape_bad, sym c.size-each.ensures, c.if-nodes-n.false, le-ltb _ _ c.if-length-byte.true)

-- what the lengths and the byte's number say, where they are accepted
lengths : (c : Else-length-byte) →
    let a = c.args in
    (length a.nodes.now ≡ a.s.n * c.size-each.result) × (a.length ≤ a.s.k * c.size-each.result) × (a.byte < a.length)
lengths c = let w = neither _ _ c.if-nodes-n.false in (eqb-true _ _ (not-false _ w.0), ltb-false _ _ w.1, omega arith)

inside : (c : Else-length-byte) → let a = c.args in a.byte < length a.nodes.now
inside c =
    let w = lengths c in
    let a = c.args in
    omega (arith, w.0, w.1, w.2, mul-le-mul_right c.size-each.result (let h : a.s.k ≤ a.s.n = omega (arith, (sized (goal.at.Else-length-byte c).After-size-each).k_high) in h))

-- where these are accepted, the symbols at the place and the change decide
decided : (c : After-change_bad-unfit) →
    let a = c.args in
    correct_refusal narrow a.s a.nodes.now a.length a.byte a.change ≡ refuse c.column_bad-high.result 5 (refuse c.change_bad-unfit.result 12 0)
unfolding correct_refusal wrong_length column symbol
decided c =
    let d = (goal.at.After-change_bad-unfit c).Else-length-byte in
    simp
    (good (goal.at.After-change_bad-unfit c).Else-shape_bad, sym d.size-each.ensures, d.if-nodes-n.false, lt-ltb _ _ (lengths d).2, sym c.column_bad-high.ensures, sym (c.change_bad-unfit.ensures ∙ ap (change_bad _) (to_z-of_z d.ranges.change)))

-- where the symbols are accepted too, the change does
last : (c : After-change_bad-unfit) →
    let a = c.args in
    c.column_bad-high.result ≡ false → correct_refusal narrow a.s a.nodes.now a.length a.byte a.change ≡ refuse c.change_bad-unfit.result 12 0
last c low = decided c ∙ ap (λ t. refuse t 5 (refuse c.change_bad-unfit.result 12 0)) low

pub size-each-requires : goal.size-each-requires
size-each-requires c = good c

pub nonzero_rem-byte : goal.nonzero_rem-byte
nonzero_rem-byte c = rw c.size-each.ensures (sized (goal.at.nonzero_rem-byte c).After-size-each).size_low

pub column_bad-high-requires : goal.column_bad-high-requires
column_bad-high-requires c = (mod-lt _ (rw c.size-each.ensures (sized (goal.at.column_bad-high-requires c).After-size-each).size_low), (lengths c).0)

pub offset_bounds-nodes-byte : goal.offset_bounds-nodes-byte
offset_bounds-nodes-byte c = omega (arith, inside (goal.at.offset_bounds-nodes-byte c).Else-length-byte)

pub bounds-nodes-byte : goal.bounds-nodes-byte
bounds-nodes-byte c = inside (goal.at.bounds-nodes-byte c).Else-length-byte

pub returns-then-high : goal.returns-then-high
returns-then-high c = sym (decided (goal.at.returns-then-high c).After-change_bad-unfit ∙ ap (λ t. refuse t 5 (refuse c.change_bad-unfit.result 12 0)) c.if-high.true)

pub returns-then-unfit : goal.returns-then-unfit
returns-then-unfit c =
    let low : c.column_bad-high.result ≡ false = search rules in
    sym (last (goal.at.returns-then-unfit c).After-change_bad-unfit low ∙ ap (λ t. refuse t 12 0) c.if-unfit.true)

pub returns : goal.returns
returns c = sym (last (goal.at.returns c).After-change_bad-unfit c.if-high.false ∙ ap (λ t. refuse t 12 0) c.if-unfit.false)
