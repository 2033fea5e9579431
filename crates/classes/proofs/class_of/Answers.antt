-- `classes::class_of` meets its contract: the class by the first v of the nodes i_0, i_s, i_2s, .. Assumes nothing.
use mathlib.Core.Path.{◌≡◌, sym, ap, ◌∙◌}
use Prim.Native.Nat.{◌*◌, ◌<◌}
use native.Mathlib.Omega.{arith}
use borrow.Author.Rules.{rules}
use lib.ListN.{length}
use Rattle.classes.specs.Classes.{top, node, class_by}
use Rattle.classes.proofs.Sizes.{first_lt}
use Rattle.classes.proofs.Layouts.{node_high}
use Rattle.classes.proofs.Turns.{class_none, class_step, class_by_lem}
use Rattle.classes.proofs.Layouts.{bounded}
use Rattle.classes.proofs.class_of.Goals as goal
use Rattle.classes.proofs.class_of.Goals.{In-loop-v}

pub loop-v-init : goal.loop-v-init
loop-v-init c = (search rules, sym (class_none _ _))

-- the index of the first rank of batch v
within : (c : In-loop-v) →
    let a = c.args in
    (a.g.batch * c.loop-v.v < length a.dead.now) × (c.loop-v.v < top a.dead.now)
within c =
    let R = c.requires in
    let l : c.loop-v.v < top c.args.dead.now = omega (arith, R.top_is) in
    (rw R.batch_is (first_lt _ _ l), l)

pub overflow_mul-node : goal.overflow_mul-node
overflow_mul-node c = omega (arith, (within c).0)

pub offset_bounds-dead-batch : goal.offset_bounds-dead-batch
offset_bounds-dead-batch c = omega (arith, (within c).0)

pub bounds-dead-batch : goal.bounds-dead-batch
bounds-dead-batch c = (within (goal.at.bounds-dead-batch c).In-loop-v).0

pub mixed-class-requires : goal.mixed-class-requires
unfolding node
mixed-class-requires c =
    let w = within (goal.at.mixed-class-requires c).In-loop-v in
    ((node_high c.requires _ w.0).1, omega (arith, (bounded c.requires).top_high))

pub loop-v-preserved : goal.loop-v-preserved
unfolding node
loop-v-preserved c =
    let l = c.loop-v in
    (search rules, c.mixed-class.ensures ∙ rw c.requires.batch_is (class_step c.args.dead.now l.v c.args.a l.class l.invariant.1))

pub returns : goal.returns
returns c =
    let l = c.loop-v in
    let e : l.v ≡ top c.args.dead.now = omega (arith, c.requires.top_is) in
    l.invariant.1 ∙ ap (λ z. class_by c.args.dead.now z c.args.a) e ∙ sym (class_by_lem _ _)
