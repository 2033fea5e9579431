-- `solving::run_table` meets its contract: the entries that are not skipped are no helper's. Assumes nothing.
use mathlib.Core.Path.{◌≡◌, ◌∙◌}
use Prim.Native.Nat.{◌+◌, ◌-◌, ◌^◌, ◌≤◌}
use native.Mathlib.Nat.{mul-le-mul}
use native.Mathlib.Numerals.{add-one}
use native.Mathlib.Omega.{arith}
use lib.ListN.{length, get_or, drop, length-take, length-set}
use Rattle.lists.proofs.Stores.{stored_more}
use Rattle.lists.proofs.Members.{rising_more}
use Rattle.shape.specs.Shape.{most_nodes}
use Rattle.shape.proofs.Accepted.{shape_accepted}
use Rattle.classes.specs.Classes.{node}
use Rattle.classes.proofs.Layouts.{bounded, node_high}
use Rattle.solving.proofs.Entries.{run_inside, run_member, needed_missing, unskipped, class_multiplied}
use Rattle.solving.proofs.run_table.Goals as goal
use Rattle.solving.proofs.run_table.Goals.{Start}

pub overflow_add-n : goal.overflow_add-n
overflow_add-n c = omega (arith, (bounded c.requires.ready.0).n_high)

pub marks-marked-requires : goal.marks-marked-requires
marks-marked-requires c = omega (arith, (bounded c.requires.ready.0).n_high)

pub idle-skipped-requires : goal.idle-skipped-requires
idle-skipped-requires c = (bounded c.requires.ready.0).n_high

-- the run is within the class, whose numbers are few
inside : (c : Start) → let a = c.args in (a.first + a.run ≤ length a.class.now) × (a.first + a.run ≤ 2 ^ most_nodes)
inside c = let p = c.requires.fronted in run_inside c.requires.ready.0 c.args.u c.args.first c.args.run c.args.class.now p.0.1 p.2

pub overflow_add-member-items : goal.overflow_add-member-items
overflow_add-member-items c = omega (arith, inside (goal.at.overflow_add-member-items c).Start)

pub offset_bounds-class-first : goal.offset_bounds-class-first
offset_bounds-class-first c = omega (arith, inside (goal.at.offset_bounds-class-first c).Start)

pub slice_bounds-member-items-end : goal.slice_bounds-member-items-end
slice_bounds-member-items-end c = (inside (goal.at.slice_bounds-member-items-end c).Start).0

pub loop-t-preserved : goal.loop-t-preserved
loop-t-preserved c =
    let l = c.loop-t in
    let a = c.args in
    let h = run_member a.class.now a.first a.run l.t c.loop-t-test.true in (
      simp length-set l.invariant.0,
      stored_more (λ k x. x ≡ get_or a.class.now (a.first + k) 0) l.each l.t _ 0 (omega (arith, l.invariant.0, c.requires.fronted.1, c.loop-t-test.true, length-take (a.first + a.run - a.first) (drop a.first a.class.now))) l.invariant.1 (c.from.ensures ∙ h),
    )

pub entry_multipliers-requires : goal.entry_multipliers-requires
unfolding node
entry_multipliers-requires c =
    let R = c.requires.ready.0 in
    let n = c.args.g.shape.n in
    let k = c.args.helpers.now in
    let high = (bounded R).n_high in
    let few = (shape_accepted c.args.g.shape R.shaped).k_high in record {
      sizes = (
        high,
        (node_high R _ c.requires.ready.1).0,
        c.requires.fronted.1,
        omega (arith, c.loop-t.invariant.0, c.requires.fronted.1),
        rw add-one (rising_more n k c.requires.ready.2),
        omega (arith, mul-le-mul {n₁ = n + 1} {m₁ = length k} {n₂ = most_nodes + 1} {m₂ = most_nodes - 1} (omega arith) (omega (arith, c.requires.ready.3))),
      );
      marks = (
        c.marks-marked.ensures,
        λ e h z. c.marks-marked.ensures.each e h ∙ (needed_missing R k c.requires.ready.2 c.requires.ready.4 e (unskipped R _ c.idle-skipped.ensures e h z)).1,
        c.requires.fronted.3,
        c.requires.fronted.4,
      );
    }

pub returns : goal.returns
unfolding node
returns c =
    let l = c.loop-t in
    let T = c.entry_multipliers.ensures in
    (T.long, T.low, class_multiplied c.requires.ready.0 _ c.idle-skipped.ensures _ c.args.u c.args.first c.args.run _ l.each _ c.requires.fronted.0.0 c.requires.fronted.2 (λ t h. l.invariant.1 t (omega arith)) T)
