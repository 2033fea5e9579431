-- `steps::message_by` meets its contract: batch by batch, by the members of the rank's class. Assumes nothing.
use mathlib.Core.Path.{◌≡◌, refl, sym, ap, ◌∙◌}
use Prim.Native.Nat.{◌*◌, ◌<◌, ◌^◌}
use native.Mathlib.Nat.{mul-le-mul}
use native.Mathlib.Omega.{arith}
use lib.ListN.{length, take}
use Rattle.lists.specs.Lists.{tabulate}
use Rattle.lists.proofs.Tables.{tabulate_length}
use Rattle.batches.specs.Batches.{added_in}
use Rattle.code.specs.Code.{narrow}
use Rattle.classes.proofs.Layouts.{bounded}
use Rattle.classes.proofs.Members.{class_members}
use Rattle.lists.proofs.Parts.{piece_part}
use Rattle.shape.specs.Shape.{most_nodes}
use Rattle.steps.proofs.Pieces.{pieces_more}
use Rattle.steps.proofs.Turned.{BatchAdded, Tabled, tabled, every, Room, room, sums_are, listed, block_long, sums_long, apart_other, message_done}
use borrow.Author.Rules.{rules}
use Rattle.steps.proofs.message_by.Goals as goal
use Rattle.steps.proofs.message_by.Goals.{At-loop-b, In-loop-b}

-- the rank's table
known : (c : At-loop-b) → let a = c.args in Tabled a.dead.now a.g a.u a.table.now c.args.g.members c.turn_of-turn.result
known c =
    tabled c.requires.0 c.args.u _ _ _ c.args.table.now refl c.requires.3 c.requires.2 (class_members c.requires.0) c.turn_of-turn.ensures

-- the batch's parts are within their buffers
part : (c : In-loop-b) → let a = c.args in Room a.dead.now a.g c.loop-b.b c.args.g.members
part c = room c.requires.0 _ c.requires.1 _ _ _ (known (goal.at.In-loop-b c).At-loop-b) c.loop-b.b (omega arith)

pub overflow_mul-block : goal.overflow_mul-block
overflow_mul-block c = let b = bounded c.requires.0 in omega (arith, mul-le-mul {n₂ = most_nodes} {m₂ = 2 ^ most_nodes} b.batch_high b.places_high)

pub overflow_mul-at : goal.overflow_mul-at
overflow_mul-at c = omega (arith, part c)

pub overflow_add-end : goal.overflow_add-end
overflow_add-end c = omega (arith, part c)

pub overflow_mul-from : goal.overflow_mul-from
overflow_mul-from c = omega (arith, part c)

pub overflow_add-to : goal.overflow_add-to
overflow_add-to c = omega (arith, part c)

pub offset_bounds-symbols-at : goal.offset_bounds-symbols-at
offset_bounds-symbols-at c = omega (arith, part (goal.at.offset_bounds-symbols-at c).In-loop-b)

pub slice_bounds-add_batch-end-in-loop-b : goal.slice_bounds-add_batch-end-in-loop-b
slice_bounds-add_batch-end-in-loop-b c = omega (arith, part (goal.at.slice_bounds-add_batch-end-in-loop-b c).In-loop-b)

pub offset_bounds-message-from : goal.offset_bounds-message-from
offset_bounds-message-from c = omega (arith, part (goal.at.offset_bounds-message-from c).In-loop-b)

pub slice_bounds-add_batch-end-in-loop-b-2 : goal.slice_bounds-add_batch-end-in-loop-b-2
slice_bounds-add_batch-end-in-loop-b-2 c = let r = part (goal.at.slice_bounds-add_batch-end-in-loop-b-2 c).In-loop-b in omega (arith, r.sums, c.requires.5, c.loop-b.invariant.1.long)

pub add_batch-requires : goal.add_batch-requires
add_batch-requires c =
    let i = (goal.at.add_batch-requires c).In-loop-b in
    let k = known (goal.at.add_batch-requires c).At-loop-b in
    let l = i.loop-b in
    let R = c.requires.0 in
    let u = c.requires.1 in
    let h : l.b < c.args.g.batches = omega arith in
    (every R k, rw (block_long R _ u _ _ _ k l.b h _ c.requires.4) (apart_other R _ u _ _ _ k l.b h), sums_long R _ u _ _ _ k l.b h _ (l.invariant.1.long ∙ c.requires.5))

pub loop-b-preserved : goal.loop-b-preserved
loop-b-preserved c =
    let l = c.loop-b in
    let k = known (goal.at.loop-b-preserved c).At-loop-b in
    let block = c.args.g.batch * c.args.g.places in
    let count = c.args.g.members in
    let members = take count c.args.table.now in
    let turn = c.turn_of-turn.result in
    let m = c.add_batch in
    let q = m.ensures ∙ ap (λ z. tabulate (length members) (added_in narrow members turn z)) (piece_part block l.b c.args.symbols.now) in (
      search rules,
      pieces_more c.args.g.batches count (BatchAdded narrow members turn block c.args.symbols.now) c.args.message.now l.b l.message _
          (c.requires.5 ∙ sym (sums_are c.requires.0 _ c.requires.1 _ _ _ k)) (omega arith) l.invariant.1 q (ap length q ∙ tabulate_length (length members) _ ∙ listed c.requires.0 _ c.requires.1 _ _ _ k),
    )

pub returns : goal.returns
returns c =
    let l = c.loop-b in
    let e : l.b ≡ c.args.g.batches = omega arith in
    message_done c.requires.0 _ c.requires.1 _ _ _ (known (goal.at.returns c).At-loop-b) narrow _ c.args.message.now l.message (l.invariant.1.long ∙ c.requires.5) (rw e at l.invariant.1)
