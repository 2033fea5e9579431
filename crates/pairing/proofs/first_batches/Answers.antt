-- `pairing::first_batches` meets its contract: the sums of the batches passed are done. Assumes nothing.
use mathlib.Core.Path.{◌≡◌}
use mathlib.Core.Bool.{false}
use Prim.Native.Nat.{◌+◌, ◌*◌, ◌≤◌}
use native.Mathlib.Omega.{arith}
use Rattle.shape.proofs.Accepted.{most_size}
use Rattle.classes.specs.Classes.{message_size}
use Rattle.classes.proofs.Layouts.{share_high}
use Rattle.solving.proofs.Entries.{batch_room}
use Rattle.solving.proofs.Puts.{put_batch}
use Rattle.solving.proofs.Sending.{slots_apart, pairs_apart}
use Rattle.pairing.proofs.first_batches.Goals as goal
use Rattle.pairing.proofs.first_batches.Goals.{In-loop-b}

-- the run of this batch is within the messages
room : (c : In-loop-b) →
    let a = c.args in
    (c.loop-b.b * a.size + a.first + a.run ≤ message_size a.g.shape a.dead.now) × (message_size a.g.shape a.dead.now ≤ most_size)
room c =
    let p = c.requires.ready in
    let a = c.args in
    (batch_room _ a.g.batches c.loop-b.b a.size a.first a.run p.4 p.3 c.loop-b-test.true, share_high p.0)

pub first_run-requires-clause-ready : goal.first_run-requires-clause-ready
first_run-requires-clause-ready c =
    let p = c.requires.ready in
    (p.0, p.1, p.2, (room (goal.at.first_run-requires-clause-ready c).In-loop-b).0, p.5 c.loop-b.b (omega arith))

pub loop-b-preserved : goal.loop-b-preserved
loop-b-preserved c =
    let p = c.requires.ready in
    let a = c.args in
    let l = c.loop-b in
    let w = c.first_run.ensures in (
      omega arith,
      put_batch _ _ _ _ (λ e x d y h k m n. pairs_apart e x d y h k) a.first a.run l.b a.size _ _ _ p.3 l.invariant.1 w.0,
      put_batch _ _ _ _ (slots_apart false _ _ _ p.1.rank) a.first a.run l.b a.size _ _ _ p.3 l.invariant.2 w.1,
    )

pub returns : goal.returns
returns c =
    let l = c.loop-b in
    let e : l.b ≡ c.args.g.batches = omega arith in
    rw (← e) (l.invariant.1, l.invariant.2)
