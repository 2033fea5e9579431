-- `hearing::hear` meets its contract: turned back, or the message is added and the helper noted. Assumes nothing.
use mathlib.Core.Path.{◌≡◌, sym, ap, ap₂, ◌∙◌}
use Prim.Native.Nat.{◌<◌}
use native.Mathlib.Omega.{arith}
use Rattle.lists.proofs.Members.{at_position, rising_below}
use Rattle.shape.specs.Refusals.{answer_number}
use Rattle.shape.proofs.Accepted.{repair_accepted}
use Rattle.code.specs.Code.{narrow}
use Rattle.judging.proofs.Judged.{inside, lists_ready}
use Rattle.arrival.specs.Sums.{added_to}
use Rattle.arrival.specs.Record.{hear_refusal}
use Rattle.arrival.proofs.Records.{caller_accepted, caller_room}
use Rattle.arrival.proofs.Judged.{HearPassed, hear_passed}
use Rattle.arrival.proofs.Promised.{hears_refused, hears_done}
use Rattle.shape.proofs.Answers.{handed_on}
use Rattle.hearing.proofs.hear.Goals as goal
use Rattle.hearing.proofs.hear.Goals.{In_ok-judge_hear}

pub returns-in_err-judge_hear : goal.returns-in_err-judge_hear
returns-in_err-judge_hear c =
    let t = c.in_err-judge_hear.was in
    rw (handed_on _ c.from_residual.ensures.1) (hears_refused _ _ _ _ _ _ _ _ _ (ap answer_number (sym t) ∙ c.judge_hear.ensures))

none : (c : In_ok-judge_hear) →
    let a = c.args in
    hear_refusal narrow a.s a.dead.now a.helpers.now a.new a.helper a.message.now a.sums.now a.heard.now ≡ 0
none c = sym c.judge_hear.ensures ∙ ap answer_number c.in_ok-judge_hear.was

known : (c : In_ok-judge_hear) →
    let a = c.args in
    HearPassed a.s a.dead.now a.helpers.now a.new a.helper a.message.now a.sums.now a.heard.now
known c = hear_passed _ _ _ _ _ _ _ _ (none c)

pub laid_out-g-requires : goal.laid_out-g-requires
laid_out-g-requires c = lists_ready _ _ _ _ (known c).listed

pub rank_of-u-requires : goal.rank_of-u-requires
rank_of-u-requires c = (c.laid_out-g.ensures.1, inside _ _ (known (goal.at.rank_of-u-requires c).In_ok-judge_hear).listed.named)

pub add_message-requires : goal.add_message-requires
add_message-requires c =
    let a = c.args in
    let k = known (goal.at.add_message-requires c).In_ok-judge_hear in
    let g = c.laid_out-g.ensures in
    let h = at_position a.helpers.now a.helper (caller_accepted _ _ _ _ k.caller).0 in
    let r = repair_accepted _ _ _ k.listed.lists in
    let below : a.helper < a.s.n = omega (arith, h.1, rising_below a.s.n a.helpers.now r.helpers_rising _ h.0) in
    record {
      ready = g.1;
      rank = c.rank_of-u.ensures.0;
      node = rw g.0 below;
      message_long = rw g.0 k.message_long;
      sums_long = rw g.0 k.sums_long;
    }

pub note-requires : goal.note-requires
note-requires c = let k = known (goal.at.note-requires c).In_ok-judge_hear in caller_room _ _ _ _ _ k.listed.lists k.caller k.heard_long

pub returns : goal.returns
returns c =
    let a = c.args in
    hears_done _ _ _ _ _ _ _ _ _ _ (none (goal.at.returns c).In_ok-judge_hear)
    (c.add_message.ensures
    ∙ ap₂ (λ s u. added_to narrow s a.dead.now u a.helper a.message.now a.sums.now) c.laid_out-g.ensures.0 c.rank_of-u.ensures.1)
    c.note.ensures
