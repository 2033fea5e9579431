-- `completion::others` meets its contract. Assumes nothing.
use mathlib.Core.Path.{◌≡◌, refl, ap, ◌∙◌}
use Prim.Native.Nat.{◌-◌, ◌<◌}
use native.Mathlib.Omega.{arith}
use lib.ListN.{length, get_or, take, length-set}
use Rattle.lists.proofs.Others.{others_length}
use Rattle.lists.specs.Lists.{outside, picked, others}
use Rattle.lists.proofs.Buffers.{written_none, written_skip, written_more, onto_front}
use Rattle.lists.proofs.Pointers.{along_none, along_hit, along_miss, hit_outside, miss_outside, map_self}
use borrow.Author.Rules.{rules}
use Rattle.completion.proofs.others.Goals as goal
use Rattle.completion.proofs.others.Goals.{then-j-list+else-list-j, else-j-list}

pub loop-i-init : goal.loop-i-init
loop-i-init c = (search rules, search rules, along_none _, written_none _ _ _)

pub loop-i-preserved-then-list-j : goal.loop-i-preserved-then-list-j
loop-i-preserved-then-list-j c =
    let l = c.loop-i in
    let up = c.requires.1 in
    let h : l.j < length c.args.list.now = omega arith in (
      search rules,
      l.invariant.1,
      along_hit _ _ up l.i l.j l.invariant.2 h c.if-list-j.true,
      written_skip _ _ l.i _ _ _ l.invariant.3 (hit_outside _ _ up l.i l.j l.invariant.2 h c.if-list-j.true),
    )

pub loop-i-preserved : goal.loop-i-preserved
loop-i-preserved c =
    let l = c.loop-i in
    let up = c.requires.1 in
    let d : l.j < length c.args.list.now → get_or c.args.list.now l.j 0 ≡ l.i → ⊥ = elim c.if-j-list.branch [ then-j-list+else-list-j w ↦ (λ h. w.if-list-j.false) | else-j-list w ↦ (λ h. absurd (omega (arith, w.if-j-list.false))) ] in (
      search rules,
      simp length-set l.invariant.1,
      along_miss _ _ up l.i l.j l.invariant.2 d,
      written_more _ _ l.i _ _ _ l.invariant.3 l.i (omega arith) (miss_outside _ _ up l.i l.j l.invariant.2 d) refl,
    )

pub returns : goal.returns
unfolding others
returns c =
    let l = c.loop-i in
    let e : l.i ≡ c.args.m = omega arith in
    let list = c.args.list.now in
    let whole = rw (map_self (picked (outside list) l.i), e) at l.invariant.3.held in
    ap (take (c.args.m - length list)) whole ∙ onto_front (others c.args.m list) _ (c.args.m - length list) (omega (arith, others_length c.args.m list c.requires.1))
