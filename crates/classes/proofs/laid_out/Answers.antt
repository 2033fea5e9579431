-- `classes::laid_out` meets its contract: each number is its definition's. Assumes nothing.
use mathlib.Core.Path.{◌≡◌, refl, sym, ap, ap₂, ◌∙◌}
use Prim.Native.Nat.{◌+◌, ◌-◌, ◌*◌, ◌/◌, ◌^◌, ◌<◌}
use native.Mathlib.Nat.{mul-div_right, div-le_self}
use native.Mathlib.Omega.{arith}
use lib.ListN.{length}
use Rattle.shape.specs.Shape.{size}
use Rattle.shape.proofs.Accepted.{Shaped, shape_accepted}
use Rattle.classes.specs.Classes.{batch, top, message_size}
use Rattle.classes.proofs.Sizes.{batch_pos, batch_whole}
use Rattle.classes.proofs.Dead.{Dead}
use Rattle.classes.proofs.Counts.{message_is}
use Rattle.classes.proofs.Members.{class_size}
use Rattle.classes.proofs.laid_out.Goals as goal
use Rattle.classes.proofs.laid_out.Goals.{After-batch-batch, After-two_to-places, Start}

shaped : (c : Start) → Shaped c.args.s
shaped c = shape_accepted c.args.s c.requires.0

pub batch-batch-requires : goal.batch-batch-requires
batch-batch-requires c = omega (arith, (shaped (goal.at.batch-batch-requires c).Start).n_high)

pub two_to-places-requires : goal.two_to-places-requires
two_to-places-requires c = (shaped (goal.at.two_to-places-requires c).Start).n_high

-- the classes are as many as the parts of h + 1 of batch size
classes_are : (c : After-batch-batch) → (0 < c.batch-batch.result) × ((length c.args.dead.now + 1) / c.batch-batch.result ≡ top c.args.dead.now + 1)
unfolding batch
classes_are c =
    let d = c.args.dead.now in
    rw c.batch-batch.ensures (batch_pos d, ap (λ z. z / batch d) (batch_whole d) ∙ mul-div_right (top d + 1) (batch_pos d))

pub nonzero_div-batches : goal.nonzero_div-batches
nonzero_div-batches c = (classes_are (goal.at.nonzero_div-batches c).After-batch-batch).0

pub nonzero_div-classes : goal.nonzero_div-classes
nonzero_div-classes c = (classes_are (goal.at.nonzero_div-classes c).After-batch-batch).0

pub nonzero_div-members : goal.nonzero_div-members
nonzero_div-members c = omega (arith, (classes_are (goal.at.nonzero_div-members c).After-batch-batch).1)

pub overflow_sub-result : goal.overflow_sub-result
overflow_sub-result c = omega (arith, (classes_are (goal.at.overflow_sub-result c).After-batch-batch).1)

-- the members of a class, and a message of so many sums in each batch
members_are : (c : After-two_to-places) →
    let a = c.args in
    let members = c.two_to-places.result / ((length a.dead.now + 1) / c.batch-batch.result) in
    (members ≡ 2 ^ a.s.n / (top a.dead.now + 1)) × (a.s.layers / c.batch-batch.result * members ≡ message_size a.s a.dead.now)
unfolding batch
members_are c =
    let D : Dead c.args.s c.args.dead.now = record { rises = c.requires.1; whole = c.requires.4 } in
    let m = ap₂ ◌/◌ c.two_to-places.ensures (classes_are (goal.at.After-two_to-places c).After-batch-batch).1 in
    (m, ap₂ ◌*◌ (ap (λ z. c.args.s.layers / z) c.batch-batch.ensures) (m ∙ class_size D 0 (omega arith)) ∙ sym (message_is D 0 (omega arith)))

pub overflow_mul-result : goal.overflow_mul-result
unfolding message_size
overflow_mul-result c =
    let st = (goal.at.overflow_mul-result c).Start in
    omega (arith, (members_are c).1, div-le_self (size st.args.s) (length st.args.dead.now + 1), (shaped st).size_high)

pub returns : goal.returns
unfolding batch top
returns c =
    let p = c.requires in
    let b = c.batch-batch.ensures in (
      refl,
      record {
        shaped = p.0;
        rises = p.1;
        some = p.2;
        few = p.3;
        whole = p.4;
        places_is = c.two_to-places.ensures;
        batch_is = b;
        batches_is = ap (λ z. c.args.s.layers / z) b;
        top_is = ap (λ z. (length c.args.dead.now + 1) / z - 1) b;
        members_is = (members_are c).0;
        share_is = (members_are c).1;
      },
    )
