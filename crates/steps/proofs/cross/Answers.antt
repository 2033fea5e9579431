-- `steps::cross` meets its contract. Assumes nothing.
use mathlib.Core.Path.{◌≡◌, refl, sym, ap, ◌∙◌}
use Prim.Native.Nat.{◌+◌, ◌-◌, ◌*◌, ◌<◌, ◌^◌}
use native.Mathlib.Nat.{mul-le-mul}
use native.Mathlib.Omega.{arith}
use lib.ListN.{length, take, drop}
use Rattle.lists.specs.Lists.{piece}
use Rattle.rows.proofs.Rows.{low_part}
use Rattle.code.specs.Code.{narrow}
use Rattle.classes.proofs.Layouts.{bounded}
use Rattle.classes.proofs.Members.{class_members}
use Rattle.lists.proofs.Parts.{piece_part}
use Rattle.shape.specs.Shape.{most_nodes}
use Rattle.steps.proofs.Pieces.{pieces_more}
use Rattle.steps.proofs.Turned.{BatchCrossed, Tabled, tabled, every, Room, room, blocks_are, listed, block_long, sums_long, apart_by, low_by, crossed_done}
use borrow.Author.Rules.{rules}
use Rattle.steps.proofs.cross.Goals as goal
use Rattle.steps.proofs.cross.Goals.{At-loop-b, In-loop-b}

-- the rank's table
known : (c : At-loop-b) → let a = c.args in Tabled a.dead.now a.g a.u c.args.table.now c.args.g.members c.turn_of-turn.result
known c =
    tabled c.requires.ready.0 c.args.u _ _ _ c.args.table.now refl c.requires.ready.3 c.requires.ready.2 (class_members c.requires.ready.0) c.turn_of-turn.ensures

-- the batch's parts are within their buffers
part : (c : In-loop-b) → let a = c.args in Room a.dead.now a.g c.loop-b.b c.args.g.members
part c = room c.requires.ready.0 _ c.requires.ready.1 _ _ _ (known (goal.at.In-loop-b c).At-loop-b) c.loop-b.b (omega arith)

pub overflow_mul-block : goal.overflow_mul-block
overflow_mul-block c = let b = bounded c.requires.ready.0 in omega (arith, mul-le-mul {n₂ = most_nodes} {m₂ = 2 ^ most_nodes} b.batch_high b.places_high)

pub overflow_mul-at : goal.overflow_mul-at
overflow_mul-at c = omega (arith, part c)

pub overflow_add-end : goal.overflow_add-end
overflow_add-end c = omega (arith, part c)

pub overflow_mul-from : goal.overflow_mul-from
overflow_mul-from c = omega (arith, part c)

pub overflow_add-to : goal.overflow_add-to
overflow_add-to c = omega (arith, part c)

pub offset_bounds-sums-from : goal.offset_bounds-sums-from
offset_bounds-sums-from c = omega (arith, part (goal.at.offset_bounds-sums-from c).In-loop-b)

pub slice_bounds-cross_batch-end-in-loop-b : goal.slice_bounds-cross_batch-end-in-loop-b
slice_bounds-cross_batch-end-in-loop-b c = omega (arith, part (goal.at.slice_bounds-cross_batch-end-in-loop-b c).In-loop-b, c.requires.ready.5)

pub offset_bounds-symbols-at : goal.offset_bounds-symbols-at
offset_bounds-symbols-at c = omega (arith, part (goal.at.offset_bounds-symbols-at c).In-loop-b)

pub slice_bounds-cross_batch-end-in-loop-b-2 : goal.slice_bounds-cross_batch-end-in-loop-b-2
slice_bounds-cross_batch-end-in-loop-b-2 c = let r = part (goal.at.slice_bounds-cross_batch-end-in-loop-b-2 c).In-loop-b in omega (arith, r.block, c.requires.ready.6, c.loop-b.invariant.1.long)

pub cross_batch-requires-clause-apart : goal.cross_batch-requires-clause-apart
cross_batch-requires-clause-apart c =
    let i = (goal.at.cross_batch-requires-clause-apart c).In-loop-b in
    let l = i.loop-b in
    let k = known (goal.at.cross_batch-requires-clause-apart c).At-loop-b in
    let R = i.requires.ready.0 in
    let u = i.requires.ready.1 in
    let h : l.b < i.args.g.batches = omega arith in
    (every R k, rw (block_long R _ u _ _ _ k l.b h l.symbols (l.invariant.1.long ∙ i.requires.ready.6)) (apart_by R _ u _ _ _ k l.b h i.args.which i.requires.ready.4), sums_long R _ u _ _ _ k l.b h _ i.requires.ready.5)

pub cross_batch-requires-clause-low : goal.cross_batch-requires-clause-low
cross_batch-requires-clause-low c =
    let i = (goal.at.cross_batch-requires-clause-low c).In-loop-b in
    let l = i.loop-b in
    let k = known (goal.at.cross_batch-requires-clause-low c).At-loop-b in
    let block = i.args.g.batch * i.args.g.places in
    let count = i.args.g.members in
    let h : l.b < i.args.g.batches = omega arith in (
      low_part _ (l.b * count + count - l.b * count) (l.b * count) _ i.requires.low.0,
      rw (piece_part block l.b l.symbols ∙ l.invariant.1.left l.b (omega arith) h) (low_by i.requires.ready.0 _ i.requires.ready.1 _ _ _ k _ l.b h (1 - i.args.which) (omega arith) _ i.requires.low.1),
    )

pub loop-b-preserved : goal.loop-b-preserved
loop-b-preserved c =
    let i = (goal.at.loop-b-preserved c).In-loop-b in
    let l = i.loop-b in
    let k = known (goal.at.loop-b-preserved c).At-loop-b in
    let block = i.args.g.batch * i.args.g.places in
    let count = i.args.g.members in
    let members = take count i.args.table.now in
    let turn = i.turn_of-turn.result in
    let R = i.requires.ready.0 in
    let u = i.requires.ready.1 in
    let n = listed R _ u _ _ _ k in
    let long = block_long R _ u _ _ _ k l.b (omega arith) l.symbols (l.invariant.1.long ∙ i.requires.ready.6) in
    let m = c.cross_batch in
    let e : take (l.b * count + count - l.b * count) (drop (l.b * count) i.args.sums.now) ≡ piece (length members) l.b i.args.sums.now =
    piece_part count l.b i.args.sums.now ∙ ap (λ z. piece z l.b i.args.sums.now) (sym n) in (
      search rules,
      pieces_more i.args.g.batches block (BatchCrossed narrow members (turn * (1 - i.args.which)) (turn * i.args.which) i.args.sums.now) i.args.symbols.now l.b l.symbols _
          (i.requires.ready.6 ∙ sym (blocks_are i.requires.ready.0 _ i.requires.ready.1 _ _ _ k)) (omega arith) l.invariant.1 (rw (e, piece_part block l.b l.symbols) at m.ensures) (m.auto.symbols ∙ long),
    )

pub returns : goal.returns
returns c =
    let l = c.loop-b in
    let e : l.b ≡ c.args.g.batches = omega arith in
    crossed_done c.requires.ready.0 _ c.requires.ready.1 _ _ _ (known (goal.at.returns c).At-loop-b) narrow _ c.requires.ready.4 _ c.args.symbols.now l.symbols c.requires.ready.6 (rw e at l.invariant.1)
