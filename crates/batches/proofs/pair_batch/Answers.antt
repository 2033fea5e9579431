-- `batches::pair_batch` meets its contract. Assumes nothing.
use mathlib.Core.Path.{◌≡◌, refl, sym, ap}
use Prim.Native.Nat.{ℕ, ◌+◌, ◌*◌, ◌<◌}
use native.Mathlib.Omega.{arith}
use lib.Bits.{bit_xor}
use lib.ListN.{length, get_or, length-set}
use Rattle.batches.proofs.Batches.{turned_is, turned_none, first_in, far_in, paired_more, paired_two}
use borrow.Author.Rules.{rules}
use Rattle.batches.proofs.pair_batch.Goals as goal
use Rattle.batches.proofs.pair_batch.Goals.{At-loop-x, In-loop-x, Then-x-count}

-- both places of a member's sum are in the batch
places : (c : At-loop-x) → (x : ℕ) → x < length c.args.members.now →
    let a = c.args in
    (get_or a.members.now x 0 < length c.loop-x.symbols) × (bit_xor (get_or a.members.now x 0) a.turn < length c.loop-x.symbols)
places c x l = rw c.loop-x.invariant.2 (first_in c.requires.0 x l, far_in c.requires.0 x l)

-- of two members at a time
here : (c : In-loop-x) →
    let a = c.args in
    let x = c.loop-x.x in
    let room = length c.loop-x.symbols in
    (get_or a.members.now x 0 < room) × (bit_xor (get_or a.members.now x 0) a.turn < room)
    × (get_or a.members.now (x + 1) 0 < room) × (bit_xor (get_or a.members.now (x + 1) 0) a.turn < room)
here c =
    let x = c.loop-x.x in
    let l : x + 1 < length c.args.members.now = omega arith in
    let k : x < length c.args.members.now = omega arith in
    let one = places (goal.at.In-loop-x c).At-loop-x x k in
    let two = places (goal.at.In-loop-x c).At-loop-x (x + 1) l in
    (one.0, one.1, two.0, two.1)

-- of the last member, where their number is odd
last : (c : Then-x-count) →
    let a = c.args in
    let l = c.loop-x in
    (get_or a.members.now l.x 0 < length l.symbols) × (bit_xor (get_or a.members.now l.x 0) a.turn < length l.symbols)
last c = places (goal.at.Then-x-count c).At-loop-x c.loop-x.x (omega arith)

pub bounds-symbols-a : goal.bounds-symbols-a
bounds-symbols-a c = (here (goal.at.bounds-symbols-a c).In-loop-x).0

pub bounds-symbols-b : goal.bounds-symbols-b
bounds-symbols-b c = simp length-set (here (goal.at.bounds-symbols-b c).In-loop-x).2

pub offset_bounds-symbols-a-in-loop-x : goal.offset_bounds-symbols-a-in-loop-x
offset_bounds-symbols-a-in-loop-x c = omega (arith, (here (goal.at.offset_bounds-symbols-a-in-loop-x c).In-loop-x).1)

pub bounds-symbols-a-in-loop-x : goal.bounds-symbols-a-in-loop-x
bounds-symbols-a-in-loop-x c = simp length-set (here (goal.at.bounds-symbols-a-in-loop-x c).In-loop-x).1

pub offset_bounds-symbols-b-in-loop-x : goal.offset_bounds-symbols-b-in-loop-x
offset_bounds-symbols-b-in-loop-x c = omega (arith, (here (goal.at.offset_bounds-symbols-b-in-loop-x c).In-loop-x).3)

pub bounds-symbols-b-in-loop-x : goal.bounds-symbols-b-in-loop-x
bounds-symbols-b-in-loop-x c = simp length-set (here (goal.at.bounds-symbols-b-in-loop-x c).In-loop-x).3

pub loop-x-preserved : goal.loop-x-preserved
loop-x-preserved c =
    let l = c.loop-x in
    let pair : (y z : _) → y ≡ z → get_or c.args.pairs.now y 0 ≡ get_or c.args.pairs.now z 0 = λ y z e. ap (λ i. get_or c.args.pairs.now i 0) e in (
      omega arith,
      search rules,
      simp length-set l.invariant.2,
      paired_two _ _ _ l.x _ _ _ _ _ _ _ _ _ l.symbols c.requires.0 c.requires.1 l.invariant.3 (omega arith) l.invariant.2 (sym (turned_none _ _)) (sym (turned_is _ _ _)) (sym (turned_none _ _))
          (sym (turned_is _ _ _)) (pair _ _ (omega arith)) refl (pair _ _ (omega arith)) (pair _ _ (omega arith)),
    )

pub bounds-symbols-a-then-x-count : goal.bounds-symbols-a-then-x-count
bounds-symbols-a-then-x-count c = (last (goal.at.bounds-symbols-a-then-x-count c).Then-x-count).0

pub offset_bounds-symbols-a-then-x-count-2 : goal.offset_bounds-symbols-a-then-x-count-2
offset_bounds-symbols-a-then-x-count-2 c = omega (arith, (last (goal.at.offset_bounds-symbols-a-then-x-count-2 c).Then-x-count).1)

pub bounds-symbols-a-then-x-count-2 : goal.bounds-symbols-a-then-x-count-2
bounds-symbols-a-then-x-count-2 c = simp length-set (last (goal.at.bounds-symbols-a-then-x-count-2 c).Then-x-count).1

pub returns-then-x-count : goal.returns-then-x-count
returns-then-x-count c =
    let l = c.loop-x in
    let e : l.x + 1 ≡ length c.args.members.now = omega arith in
    rw (← e)
    (paired_more _ _ _ l.x _ _ _ _ _ l.symbols c.requires.0 c.requires.1 l.invariant.3 (omega arith) l.invariant.2 (sym (turned_none _ _)) (sym (turned_is _ _ _))
    (ap (λ z. get_or c.args.pairs.now z 0) (let z : l.x * 2 ≡ l.x * 2 + 0 = omega arith in z)) refl)
