-- `patterns::patterns_of` meets its contract. Assumes nothing.
use mathlib.Core.Path.{◌≡◌, sym, ap, ◌∙◌}
use Prim.Native.Nat.{ℕ}
use native.Mathlib.Omega.{arith}
use lib.ListN.{get_or-replicate}
use Rattle.rows.specs.Rows.{most_places}
use Rattle.patterns.specs.Patterns.{pattern}
use Rattle.patterns.proofs.Patterns.{pattern_none, pattern_skip, pattern_low, lengthened_more}
use borrow.Author.Rules.{rules}
use Rattle.patterns.proofs.patterns_of.Goals as goal

pub loop-node-init : goal.loop-node-init
loop-node-init c = (search rules, λ t h. get_or-replicate {A = ℕ} most_places t 0 0 (omega arith) ∙ sym (pattern_none _ _))

pub loop-node-preserved-then-marked-node : goal.loop-node-preserved-then-marked-node
loop-node-preserved-then-marked-node c =
    let l = c.loop-node in
    (l.invariant.0, λ t h. l.invariant.1 t h ∙ sym (pattern_skip _ _ l.node c.if-marked-node.true))

pub lengthen-requires : goal.lengthen-requires
lengthen-requires c =
    let l = c.loop-node in
    (omega arith, c.requires.1, c.requires.2, l.invariant.0, λ t h. rw (l.invariant.1 t h) (pattern_low _ _ l.node (omega arith)))

pub loop-node-preserved : goal.loop-node-preserved
loop-node-preserved c =
    let l = c.loop-node in
    (c.lengthen.ensures.long ∙ l.invariant.0, lengthened_more _ _ _ l.node _ _ c.lengthen.ensures l.invariant.1 c.if-marked-node.false)

pub returns : goal.returns
returns c =
    let l = c.loop-node in
    let e : l.node ≡ c.args.n = omega arith in
    (l.invariant.0, λ t h. l.invariant.1 t h ∙ ap (pattern _ _) e)
