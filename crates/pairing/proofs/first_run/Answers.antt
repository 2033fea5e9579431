-- `pairing::first_run` meets its contract. Assumes nothing.
use mathlib.Core.Path.{◌≡◌, sym, ap₂, ◌∙◌}
use mathlib.Core.Bool.{false}
use Prim.Native.Nat.{ℕ, ◌+◌, ◌*◌, ◌<◌}
use native.Mathlib.Omega.{arith}
use lib.ListN.{length}
use Rattle.classes.specs.Classes.{node}
use Rattle.classes.proofs.Layouts.{bounded, node_high}
use Rattle.solving.specs.Solving.{slots, Places, pair_place}
use Rattle.solving.proofs.Entries.{entry_summable, rank_summable, run_handed, run_owned}
use Rattle.solving.proofs.Sending.{pairs_apart}
use Rattle.pairing.proofs.first_run.Goals as goal
use Rattle.pairing.proofs.first_run.Goals.{After-doubled-at}

pub gather-sent-requires : goal.gather-sent-requires
gather-sent-requires c =
    let p = c.requires.ready in
    ((bounded p.0).n_high, p.1.rises, p.2, rw p.0.share_is p.3, p.1.long ∙ ap₂ ◌*◌ (sym p.1.count) (sym p.0.share_is))

-- the places of a run's own symbols
places : (c : After-doubled-at) → (e : ℕ) → e < 2 → let a = c.args in Places a.run (a.first * 2 + e) c.doubled-at.result (length a.pairs.now)
places c e h =
    let p = c.requires in
    let d = c.doubled-at.ensures in
    record {
      long = omega (arith, d.0, p.ready.2);
      inside = λ t l. omega (arith, d.1 t (omega (arith, p.ready.2)), p.pairs_len.0, p.ready.3);
      apart = λ t v l k q. omega (arith, d.1 t (omega (arith, p.ready.2)), d.1 v (omega (arith, p.ready.2)), q);
    }

pub put_entry-requires : goal.put_entry-requires
unfolding node
put_entry-requires c =
    let p = c.requires.ready in
    let e : c.args.first * 2 ≡ c.args.first * 2 + 0 = omega arith in
    (entry_summable p.0 _ _ _ p.1 _ _ p.2 p.3 _ _ p.4 c.gather-sent.ensures _ (omega (arith, node_high p.0 _ p.1.rank)), rw e (places (goal.at.put_entry-requires c).After-doubled-at 0 (omega arith)))

pub put_entry-requires-2 : goal.put_entry-requires-2
put_entry-requires-2 c =
    let p = c.requires.ready in
    (entry_summable p.0 _ _ _ p.1 _ _ p.2 p.3 _ _ p.4 c.gather-sent.ensures _ (omega arith), rw c.put_entry.ensures.long (places (goal.at.put_entry-requires-2 c).After-doubled-at 1 (omega arith)))

pub hand_out-requires : goal.hand_out-requires
unfolding slots
hand_out-requires c =
    let p = c.requires in
    record { ready = (p.ready.0, p.ready.1.rank, p.ready.2, p.ready.3, rank_summable p.ready.0 _ _ _ p.ready.1 _ _ p.ready.2 p.ready.3 _ _ p.ready.4 c.gather-sent.ensures); out_len = p.pairs_len.1 }

pub returns : goal.returns
unfolding node
returns c =
    let p = c.requires.ready in
    let d = c.doubled-at.ensures in (
      run_owned p.0 _ _ _ p.1 _ _ p.2 p.3 _ _ p.4 c.gather-sent.ensures pair_place (λ e x d y h l k m. pairs_apart e x d y h l) _ _ _ _ _ _ _ c.put_entry.ensures c.put_entry-2.ensures
          (λ t l. unfold pair_place in omega (arith, d.1 t (omega (arith, p.2)))) (λ t l. unfold pair_place in omega (arith, d.1 t (omega (arith, p.2)))),
      run_handed p.0 _ _ _ p.1 _ _ p.2 p.3 _ _ p.4 c.gather-sent.ensures false _ _ c.hand_out.ensures,
    )
