-- `judging::helpers_bad` meets its contract: all symbols of the helpers passed are good. Assumes nothing.
use mathlib.Core.Path.{◌≡◌, refl, sym, ap, ◌∙◌}
use mathlib.Core.Bool.{Bool, not, true, false}
use mathlib.Core.List.{List}
use Prim.Native.Nat.{ℕ, ◌+◌, ◌-◌, ◌*◌, ◌≤◌}
use native.Mathlib.Nat.{mul-le-mul_right, suc-mul, mul-le-mul}
use native.Mathlib.Omega.{arith}
use borrow.Author.Rules.{rules}
use lib.ListN.{length, get_or, take, drop}
use Rattle.lists.specs.Lists.{all, piece}
use Rattle.lists.proofs.Buffers.{part_of}
use Rattle.lists.proofs.Members.{rising_below}
use Rattle.lists.proofs.Scans.{all_pass, all_fail, all_end}
use Rattle.shape.specs.declared.Shape.{Shape}
use Rattle.shape.specs.Shape.{size, most_nodes}
use Rattle.shape.specs.Refusals.{symbol_bad}
use Rattle.shape.proofs.Accepted.{shape_accepted, most_size}
use Rattle.code.specs.Code.{narrow}
use Rattle.judging.specs.Refusals.{node_good}
use Rattle.judging.proofs.helpers_bad.Invariants.{good}
use Rattle.judging.proofs.helpers_bad.Goals as goal
use Rattle.judging.proofs.helpers_bad.Goals.{In-loop-helper}

pub loop-helper-init : goal.loop-helper-init
loop-helper-init c = (search rules, refl)

-- a helper's symbols are within the nodes
within : (c : In-loop-helper) →
    let a = c.args in
    let i = get_or a.helpers.now c.loop-helper.helper-index 0 in
    (i * c.size-full.result + c.size-full.result ≤ length a.nodes.now) × (length a.nodes.now ≤ most_nodes * most_size)
within c =
    let e = c.size-full.ensures in
    let h = shape_accepted _ c.requires.0 in
    let l = rising_below _ _ c.requires.1 c.loop-helper.helper-index c.loop-helper-test.true in (
      rw e (omega (arith, mul-le-mul_right (size c.args.s) l, suc-mul (get_or c.args.helpers.now c.loop-helper.helper-index 0) (size c.args.s), c.requires.2)),
      omega (arith, c.requires.2, mul-le-mul h.n_high h.size_high),
    )

pub overflow_mul-at : goal.overflow_mul-at
overflow_mul-at c = omega (arith, within (goal.at.overflow_mul-at c).In-loop-helper)

pub overflow_add-end : goal.overflow_add-end
overflow_add-end c = omega (arith, within (goal.at.overflow_add-end c).In-loop-helper)

pub offset_bounds-nodes-at : goal.offset_bounds-nodes-at
offset_bounds-nodes-at c = omega (arith, within (goal.at.offset_bounds-nodes-at c).In-loop-helper)

pub slice_bounds-symbol_bad-end : goal.slice_bounds-symbol_bad-end
slice_bounds-symbol_bad-end c = (within (goal.at.slice_bounds-symbol_bad-end c).In-loop-helper).0

-- what the symbols lent tell of the helper
back : (a t : Bool) → t ≡ not a → a ≡ not t
back true t e = ap not (sym e)
back false t e = ap not (sym e)

tells : (full i : ℕ) (nodes : List ℕ) (t : Bool) → t ≡ symbol_bad narrow.modulus (take (i * full + full - i * full) (drop (i * full) nodes)) → good full nodes i ≡ not t
unfolding symbol_bad piece
tells full i nodes t e = back _ t (rw (part_of (i * full) full nodes) at e)

same : (s : Shape) (nodes helpers : List ℕ) (full : ℕ) → full ≡ size s → all (node_good narrow s nodes) helpers ≡ all (good full nodes) helpers
unfolding node_good
same s nodes helpers full e = rw e refl

pub returns-then-symbol_bad : goal.returns-then-symbol_bad
returns-then-symbol_bad c =
    let l = c.loop-helper in
    sym
    (ap not
    (same _ _ _ _ c.size-full.ensures ∙ l.invariant.1
    ∙ all_fail _ _ _ c.loop-helper-test.true (tells _ _ _ _ c.symbol_bad.ensures ∙ ap not c.if-symbol_bad.true)))

pub loop-helper-preserved : goal.loop-helper-preserved
loop-helper-preserved c =
    let l = c.loop-helper in
    (search rules, l.invariant.1 ∙ all_pass _ _ _ c.loop-helper-test.true (tells _ _ _ _ c.symbol_bad.ensures ∙ ap not c.if-symbol_bad.false))

pub returns : goal.returns
returns c = sym (ap not (same _ _ _ _ c.size-full.ensures ∙ c.loop-helper.invariant.1 ∙ all_end _ _ _ c.loop-helper-test.false))
