-- `pairing::first_with` meets its contract: the sums of the members passed are done, in every batch. Assumes nothing.
use mathlib.Core.Path.{refl}
use mathlib.Core.Bool.{false}
use Prim.Native.Nat.{ℕ, ◌<◌}
use native.Mathlib.Omega.{arith}
use Rattle.rows.proofs.Rows.{low_replicate}
use Rattle.tables.specs.Tables.{table_size}
use Rattle.filling.specs.Filling.{Below}
use Rattle.classes.specs.Classes.{message_size}
use Rattle.classes.proofs.Members.{class_members}
use Rattle.solving.proofs.Entries.{Classed, classed, all_passed}
use Rattle.solving.proofs.Puts.{put_none, put_run}
use Rattle.solving.proofs.Sending.{slots_apart, pairs_apart, pairs_end, sent_end}
use Rattle.pairing.proofs.first_with.Goals as goal
use Rattle.pairing.proofs.first_with.Goals.{Start}

pub loop-first-init : goal.loop-first-init
loop-first-init c =
    (omega arith, refl, low_replicate _ table_size 0 (omega arith), put_none _ _ _ _ _ _ (λ e x k h d. omega (arith, d)), put_none _ _ _ _ _ _ (λ e x k h d. omega (arith, d)))

-- the members of the rank's class
whole : (c : Start) → let a = c.args in Classed a.dead.now a.g a.u c.args.g.members
whole c = classed c.requires.ready.0 _ _ (class_members c.requires.ready.0)

pub run_table-requires-clause-fronted : goal.run_table-requires-clause-fronted
run_table-requires-clause-fronted c =
    let l = c.loop-first in
    let r = c.run_from-run.ensures in
    let w = (whole (goal.at.run_table-requires-clause-fronted c).Start).is in
    let m = c.list_members in
    ((rw c.rank_class.ensures at m.ensures, omega (arith, c.requires.ready.2, m.auto.out)), r.1, omega (arith, w, r.2), l.invariant.1, l.invariant.2)

pub first_batches-requires-clause-ready : goal.first_batches-requires-clause-ready
first_batches-requires-clause-ready c =
    let p = c.requires.ready in
    let r = c.run_from-run.ensures in
    let w = whole (goal.at.first_batches-requires-clause-ready c).Start in
    (p.0, p.1, r.1, r.2, w.sums, rw w.is c.run_table.ensures.2)

pub loop-first-preserved : goal.loop-first-preserved
loop-first-preserved c =
    let p = c.requires.ready in
    let a = c.args in
    let l = c.loop-first in
    let m = c.run_table.ensures in
    let w = (whole (goal.at.loop-first-preserved c).Start).sums in
    let d = c.first_batches.ensures in (
      c.run_from-run.ensures.2,
      m.0,
      m.1,
      put_run _ _ _ _ (λ e x d y h k m n. pairs_apart e x d y h k) l.first c.run_from-run.result a.g.batches c.args.g.members _ _ _ w l.invariant.3 d.0,
      put_run _ _ _ _ (slots_apart false _ _ _ p.1.rank) l.first c.run_from-run.result a.g.batches c.args.g.members _ _ _ w l.invariant.4 d.1,
    )

pub returns : goal.returns
returns c =
    let l = c.loop-first in
    let p = c.requires in
    let a = c.args in
    let w = (whole (goal.at.returns c).Start).sums in
    let all : (x : ℕ) → x < message_size a.g.shape a.dead.now → Below c.args.g.members l.first x = λ x h. all_passed a.g.batches c.args.g.members l.first x (omega arith) (rw (← w) h) in
    record {
      own = pairs_end _ _ _ _ _ (Below c.args.g.members l.first) _ _ all l.invariant.3 p.pairs_len.0;
      sent = sent_end _ _ _ _ _ p.ready.1.rank (Below c.args.g.members l.first) _ _ all l.invariant.4 p.pairs_len.1;
    }
