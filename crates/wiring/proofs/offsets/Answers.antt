-- `wiring::offsets` meets its contract: an a of the class is the first place of its sum in batch 0, and turned it is the other. Assumes nothing.
use mathlib.Core.Path.{◌≡◌, ap, ◌∙◌}
use Prim.Native.Nat.{◌+◌, ◌-◌, ◌*◌, ◌^◌, ◌≤◌}
use native.Mathlib.Omega.{arith}
use lib.Bits.{bit_xor}
use lib.ListN.{length, get_or, drop, length-take, length-set}
use Rattle.lists.proofs.Stores.{stored_more}
use Rattle.shape.specs.Shape.{most_nodes}
use Rattle.solving.proofs.Entries.{run_inside, run_member}
use Rattle.wiring.proofs.Passing.{offset_turned}
use Rattle.wiring.proofs.offsets.Goals as goal
use Rattle.wiring.proofs.offsets.Goals.{Start}

-- the run is within the class
inside : (c : Start) → let a = c.args in (a.first + a.run ≤ length a.class.now) × (a.first + a.run ≤ 2 ^ most_nodes)
inside c = let p = c.requires in run_inside p.0 c.args.u c.args.first c.args.run c.args.class.now p.2.1 p.4

pub overflow_add-member-items : goal.overflow_add-member-items
overflow_add-member-items c = omega (arith, inside (goal.at.overflow_add-member-items c).Start)

pub offset_bounds-class-first : goal.offset_bounds-class-first
offset_bounds-class-first c = omega (arith, inside (goal.at.offset_bounds-class-first c).Start)

pub slice_bounds-member-items-end : goal.slice_bounds-member-items-end
slice_bounds-member-items-end c = (inside (goal.at.slice_bounds-member-items-end c).Start).0

pub loop-t-preserved : goal.loop-t-preserved
loop-t-preserved c =
    let l = c.loop-t in
    let a = c.args in
    let h = run_member a.class.now a.first a.run l.t c.loop-t-test.true in
    let turn = c.turn_of.result * a.which in (
      simp length-set l.invariant.0,
      stored_more (λ k x. x ≡ bit_xor (get_or a.class.now (a.first + k) 0) turn) l.out l.t _ 0
          (omega (arith, l.invariant.0, c.requires.3, c.loop-t-test.true, length-take (a.first + a.run - a.first) (drop a.first a.class.now))) l.invariant.1
          (ap (λ x. bit_xor x turn) (c.from.ensures ∙ h)),
    )

pub returns : goal.returns
returns c =
    let l = c.loop-t in
    let p = c.requires in (
      l.invariant.0,
      λ t h. l.invariant.1 t (omega arith) ∙ offset_turned p.0 c.args.u c.args.which (c.args.first + t) _ _ p.1 p.5 (omega (arith, p.4)) (p.2.0.each (c.args.first + t) (omega (arith, p.4))) c.turn_of.ensures,
    )
