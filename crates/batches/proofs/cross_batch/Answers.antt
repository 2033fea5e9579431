-- `batches::cross_batch` meets its contract. Assumes nothing.
use mathlib.Core.Path.{◌≡◌, sym, ap, ◌∙◌}
use Prim.Native.Nat.{◌<◌}
use native.Mathlib.Omega.{arith}
use lib.Bits.{bit_xor}
use borrow.Author.Tests.{eqb-true}
use lib.ListN.{length, get_or}
use Rattle.lists.proofs.Tests.{both}
use Rattle.code.specs.Code.{narrow}
use Rattle.field.specs.Residues.{minus}
use Rattle.batches.specs.Batches.{turned, left_in}
use Rattle.batches.proofs.Batches.{turned_is, near_in, far_in, stored_more, row_room}
use Rattle.batches.proofs.cross_batch.Goals as goal
use Rattle.batches.proofs.cross_batch.Goals.{In-loop-x}

pub cross_rows-requires-clause-apart : goal.cross_rows-requires-clause-apart
cross_rows-requires-clause-apart c =
    let p = c.requires in
    let b = both _ _ c.if-every-near.true in
    let A = rw (eqb-true _ _ b.1, p.apart.0 b.0) at p.apart.1 in
    (rw p.apart.2 A, rw p.apart.2 (row_room _ A))

-- what stands at the near place was there before
near_kept : (c : In-loop-x) →
    let a = c.args in
    let x = c.loop-x.x in
    get_or c.loop-x.symbols (bit_xor (get_or a.members.now x 0) a.near) 0 ≡ get_or a.symbols.now (turned a.members.now a.near x) 0
near_kept c =
    let a = c.args in
    let l = c.loop-x in
    let k : l.x < length a.members.now = omega arith in
    ap (λ z. get_or l.symbols z 0) (sym (turned_is a.members.now a.near l.x))
    ∙ l.invariant.rest (turned a.members.now a.near l.x) (λ x h z. c.requires.apart.1.apart l.x x k (omega arith) (sym z))

pub offset_bounds-symbols-a : goal.offset_bounds-symbols-a
offset_bounds-symbols-a c = omega (arith, near_in c.requires.apart.1 c.loop-x.x (omega arith))

pub bounds-symbols-a : goal.bounds-symbols-a
bounds-symbols-a c = omega (arith, near_in c.requires.apart.1 c.loop-x.x (omega arith), c.loop-x.invariant.long)

pub difference-requires : goal.difference-requires
difference-requires c =
    let i = (goal.at.difference-requires c).In-loop-x in
    (i.requires.low.0.at i.loop-x.x, rw (near_kept i) (i.requires.low.1.each i.loop-x.x (omega arith)))

pub offset_bounds-symbols-a-in-loop-x : goal.offset_bounds-symbols-a-in-loop-x
offset_bounds-symbols-a-in-loop-x c = omega (arith, far_in c.requires.apart.1 c.loop-x.x (omega arith))

pub bounds-symbols-a-in-loop-x : goal.bounds-symbols-a-in-loop-x
bounds-symbols-a-in-loop-x c = omega (arith, far_in c.requires.apart.1 c.loop-x.x (omega arith), c.loop-x.invariant.long)

pub loop-x-preserved : goal.loop-x-preserved
unfolding left_in
loop-x-preserved c =
    let l = c.loop-x in
    let a = c.args in
    let A = c.requires.apart.1 in
    let k : l.x < length a.members.now = omega arith in
    stored_more (turned a.members.now a.far) (left_in narrow a.members.now a.near a.sums.now a.symbols.now) a.symbols.now l.x _ _ l.symbols l.invariant
    (sym (turned_is _ _ _)) (far_in A l.x k) (λ x h z. let e : x ≡ l.x = A.own x l.x (omega arith) k z in omega arith)
    (c.difference.ensures ∙ ap (minus narrow.modulus (get_or a.sums.now l.x 0)) (near_kept (goal.at.loop-x-preserved c).In-loop-x))
