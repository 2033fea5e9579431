-- `steps::pairs_with` meets its contract. Assumes nothing.
use mathlib.Core.Path.{◌≡◌, sym, ap, ◌∙◌}
use Prim.Native.Nat.{◌+◌, ◌-◌, ◌*◌, ◌<◌, ◌^◌}
use native.Mathlib.Nat.{mul-le-mul}
use native.Mathlib.Omega.{arith}
use lib.ListN.{length, take, drop, length-take, length-drop}
use Rattle.lists.specs.Lists.{piece}
use Rattle.classes.proofs.Layouts.{bounded}
use Rattle.classes.proofs.Members.{class_members}
use Rattle.lists.proofs.Parts.{piece_part}
use Rattle.shape.specs.Shape.{most_nodes}
use Rattle.steps.proofs.Pieces.{pieces_more}
use Rattle.steps.proofs.Turned.{BatchPaired, Tabled, tabled, Room, room, blocks_are, listed, block_long, apart_first, apart_other, paired_done}
use borrow.Author.Rules.{rules}
use Rattle.steps.proofs.pairs_with.Goals as goal
use Rattle.steps.proofs.pairs_with.Goals.{At-loop-b, In-loop-b}

-- the rank's table
known : (c : At-loop-b) → let a = c.args in Tabled a.dead.now a.g a.u c.list_members.new.out c.args.g.members c.turn_of-turn.result
known c =
    let t = c.list_members in
    tabled c.requires.0 _ _ _ _ _ c.rank_class.ensures t.ensures (rw t.auto.out c.requires.2) (class_members c.requires.0) c.turn_of-turn.ensures

-- the batch's parts are within their buffers
part : (c : In-loop-b) → let a = c.args in Room a.dead.now a.g c.loop-b.b c.args.g.members
part c = room c.requires.0 _ c.requires.1 _ _ _ (known (goal.at.In-loop-b c).At-loop-b) c.loop-b.b (omega arith)

pub overflow_mul-block : goal.overflow_mul-block
overflow_mul-block c = let b = bounded c.requires.0 in omega (arith, mul-le-mul {n₂ = most_nodes} {m₂ = 2 ^ most_nodes} b.batch_high b.places_high)

pub overflow_mul-at : goal.overflow_mul-at
overflow_mul-at c = omega (arith, part c)

pub overflow_add-end : goal.overflow_add-end
overflow_add-end c = omega (arith, part c)

pub overflow_mul-from : goal.overflow_mul-from
overflow_mul-from c = omega (arith, part c)

pub overflow_add-to : goal.overflow_add-to
overflow_add-to c = omega (arith, part c)

pub offset_bounds-pairs-from : goal.offset_bounds-pairs-from
offset_bounds-pairs-from c = omega (arith, part c)

pub slice_bounds-pair_batch-end-in-loop-b-2 : goal.slice_bounds-pair_batch-end-in-loop-b-2
slice_bounds-pair_batch-end-in-loop-b-2 c = omega (arith, part c, c.requires.3)

pub offset_bounds-symbols-at : goal.offset_bounds-symbols-at
offset_bounds-symbols-at c = omega (arith, part (goal.at.offset_bounds-symbols-at c).In-loop-b)

pub slice_bounds-pair_batch-end-in-loop-b-3 : goal.slice_bounds-pair_batch-end-in-loop-b-3
slice_bounds-pair_batch-end-in-loop-b-3 c = let r = part (goal.at.slice_bounds-pair_batch-end-in-loop-b-3 c).In-loop-b in omega (arith, r.block, c.requires.4, c.loop-b.invariant.1.long)

pub pair_batch-requires : goal.pair_batch-requires
pair_batch-requires c =
    let i = (goal.at.pair_batch-requires c).In-loop-b in
    let l = i.loop-b in
    let k = known (goal.at.pair_batch-requires c).At-loop-b in
    let r = part i in
    let R = i.requires.0 in
    let u = i.requires.1 in
    let h : l.b < i.args.g.batches = omega arith in
    let long = block_long R _ u _ _ _ k l.b h l.symbols (l.invariant.1.long ∙ i.requires.4) in (
      rw long (apart_other R _ u _ _ _ k l.b h),
      rw long (apart_first R _ u _ _ _ k l.b h),
      rw (listed R _ u _ _ _ k) (simp (length-take, length-drop) (omega (arith, r.sums, i.requires.3))),
    )

pub loop-b-preserved : goal.loop-b-preserved
loop-b-preserved c =
    let i = (goal.at.loop-b-preserved c).In-loop-b in
    let l = i.loop-b in
    let k = known (goal.at.loop-b-preserved c).At-loop-b in
    let block = i.args.g.batch * i.args.g.places in
    let count = i.args.g.members in
    let members = take count i.list_members.new.out in
    let turn = i.turn_of-turn.result in
    let R = i.requires.0 in
    let u = i.requires.1 in
    let n = listed R _ u _ _ _ k in
    let long = block_long R _ u _ _ _ k l.b (omega arith) l.symbols (l.invariant.1.long ∙ i.requires.4) in
    let m = c.pair_batch in
    let e : take (l.b * (count * 2) + count * 2 - l.b * (count * 2)) (drop (l.b * (count * 2)) i.args.pairs.now) ≡ piece (length members * 2) l.b i.args.pairs.now =
    piece_part (count * 2) l.b i.args.pairs.now ∙ ap (λ z. piece (z * 2) l.b i.args.pairs.now) (sym n) in (
      search rules,
      pieces_more i.args.g.batches block (BatchPaired members turn i.args.pairs.now) i.args.symbols.now l.b l.symbols _
          (i.requires.4 ∙ sym (blocks_are i.requires.0 _ i.requires.1 _ _ _ k)) (omega arith) l.invariant.1 (rw e at m.ensures) (m.auto.symbols ∙ long),
    )

pub returns : goal.returns
returns c =
    let l = c.loop-b in
    let e : l.b ≡ c.args.g.batches = omega arith in (
      paired_done c.requires.0 _ c.requires.1 _ _ _ (known (goal.at.returns c).At-loop-b) _ c.args.symbols.now l.symbols (l.invariant.1.long ∙ c.requires.4) (rw e at l.invariant.1),
      rw c.rank_class.ensures at c.list_members.ensures,
    )
