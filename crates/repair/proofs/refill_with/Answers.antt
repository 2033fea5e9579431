-- `repair::refill_with` meets its contract: the wire and the nodes of the whole repair, assembled. Assumes nothing.
use mathlib.Core.Path.{◌∙◌}
use native.Mathlib.Omega.{arith}
use lib.ListN.{length}
use Rattle.judging.proofs.Judged.{lists_accepted, WholePassed, whole_passed}
use Rattle.repair.proofs.Assembly.{wire_due, wired, wire_is, renewable, nodes_are}
use Rattle.repair.proofs.refill_with.Goals as goal
use Rattle.repair.proofs.refill_with.Goals.{Start}

known : (c : Start) → let a = c.args in WholePassed a.g.shape a.dead.now a.helpers.now a.nodes.now (length a.wire.now)
known c = whole_passed _ _ _ _ _ c.requires.0

pub told_by-told-requires : goal.told_by-told-requires
told_by-told-requires c = let st = (goal.at.told_by-told-requires c).Start in (st.requires.1, (lists_accepted _ _ _ _ (known st).listed).lists.helpers_count)

pub send-requires : goal.send-requires
send-requires c =
    let st = (goal.at.send-requires c).Start in
    let k = known st in
    let A = lists_accepted _ _ _ _ k.listed in record { ready = (st.requires.1, c.told_by-told.ensures, A.lists.helpers_rising, A.lists.helpers_count, st.requires.2); nodes_len = (k.long, omega (arith, k.due, wire_due st.args.g.shape st.args.dead.now A.lists.some_dead)) }

pub exchange-requires : goal.exchange-requires
exchange-requires c =
    let st = (goal.at.exchange-requires c).Start in
    let k = known st in
    let A = lists_accepted _ _ _ _ k.listed in
    let m = c.send in
    (st.requires.1, c.told_by-told.ensures, k.long, wired _ _ _ _ _ _ A k.due m.ensures, omega (arith, st.requires.2, m.auto.class))

pub renew-requires : goal.renew-requires
renew-requires c =
    let st = (goal.at.renew-requires c).Start in
    let k = known st in
    let A = lists_accepted _ _ _ _ k.listed in
    let m = c.send in
    let x = c.exchange in (
      st.requires.1,
      c.told_by-told.ensures,
      x.ensures.nodes_long ∙ k.long,
      x.ensures.long ∙ m.ensures.long ∙ k.due ∙ wire_due _ _ A.lists.some_dead,
      renewable _ _ _ _ _ _ A k.due m.ensures _ _ x.ensures,
      omega (arith, st.requires.2, m.auto.class, x.auto.class),
    )

pub returns : goal.returns
returns c =
    let k = known (goal.at.returns c).Start in
    let A = lists_accepted _ _ _ _ k.listed in
    let G = c.send.ensures in
    let E = c.exchange.ensures in
    record { sent = wire_is _ _ _ _ _ _ A k.due G _ _ E; restored = nodes_are _ _ _ _ _ _ A k.due G _ _ E _ k.long c.renew.ensures }
