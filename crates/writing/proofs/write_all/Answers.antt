-- `writing::write_all` meets its contract. Assumes nothing.
use mathlib.Core.Path.{◌≡◌, sym, ap, ◌∙◌}
use Prim.Native.Nat.{ℕ, ◌+◌, ◌*◌, ◌≤◌, ◌<◌}
use native.Mathlib.Nat.{mul-le-mul_right, mul-le-mul}
use native.Mathlib.Omega.{arith}
use lib.Arith.{digits_lt}
use lib.ListN.{length, get_or}
use lib.Seq.{length-take-le}
use mathlib.Core.List.{List}
use Rattle.lists.specs.Lists.{range}
use Rattle.lists.proofs.Tests.{at_all_below}
use Rattle.lists.proofs.Tables.{range_at}
use Rattle.shape.specs.Shape.{size, byte_values, most_nodes}
use Rattle.shape.proofs.Accepted.{shape_accepted, most_size}
use Rattle.code.specs.Code.{narrow}
use Rattle.code.specs.Archive.{written}
use Rattle.code.proofs.Written.{padding, padded_length, padded_at, written_given}
use Rattle.code.proofs.Accepted.{WriteAccepted, write_accepted}
use Rattle.shape.specs.declared.Shape.{Shape}
use Rattle.filling.specs.Filling.{Fillable, Filled, Everywhere}
use Rattle.writing.specs.Steps.{DataStored}
use Rattle.restoring.proofs.Placing.{placed_fillable, filled_restored}
use Rattle.writing.proofs.write_all.Goals as goal
use Rattle.writing.proofs.write_all.Goals.{After-slice_known-1}

-- what is known of the input
able : (c : After-slice_known-1) → let a = c.args in WriteAccepted a.s a.transcript.now (length a.nodes.now)
able c = write_accepted _ _ _ c.requires (at_all_below byte_values _ (λ j h. omega (arith, c.type_inv.transcript j)))

few : (c : After-slice_known-1) → c.args.s.k ≤ most_nodes
few c = let shaped = shape_accepted _ (able c).shape in omega (arith, shaped.k_high, shaped.n_high)

-- the data nodes lie in the buffer
room : (c : After-slice_known-1) (each : ℕ) → let a = c.args in each ≡ size a.s → (a.s.k * each ≤ length a.nodes.now) × (a.s.k * each ≤ most_nodes * most_size)
room c each e =
    let w = able c in
    let shaped = shape_accepted _ w.shape in (
      omega (arith, w.whole ∙ ap (λ k. c.args.s.n * k) (sym e), mul-le-mul_right each (let z : c.args.s.k ≤ c.args.s.n = omega (arith, shaped.k_high) in z)),
      omega (arith, mul-le-mul (few c) (let z : each ≤ most_size = rw e shaped.size_high in z)),
    )

-- with the data nodes written, the others can be filled in, and give what is written
module _ (c : After-slice_known-1) (nodes : List ℕ) (put : let a = c.args in DataStored (a.s.k * size a.s) a.transcript.now a.nodes.now nodes) where
  abbrev s : Shape
  s = c.args.s

  there : (j p : ℕ) → j < s.k → p < size s → get_or nodes (get_or (range 0 s.k) j 0 * size s + p) 0 ≡ get_or (padding s c.args.transcript.now) (j * size s + p) 0
  there j p h l =
      ap (λ k. get_or nodes (k * size s + p) 0) (range_at 0 s.k j h ∙ omega arith) ∙ put.each (j * size s + p) (digits_lt h l)
      ∙ sym (padded_at narrow s _ (able c).able (j * size s + p))

  fillable : Fillable s.n (size s) (range 0 s.k) nodes
  fillable =
      let w = able c in
      placed_fillable s (range 0 s.k) _ (written_given narrow s _ w.able) (shape_accepted s w.shape).n_high (padded_length narrow s _ w.able) nodes (put.long ∙ w.whole) there

  filled : (after : List ℕ) → Filled s.n (size s) (range 0 s.k) Everywhere nodes after → after ≡ written narrow s c.args.transcript.now
  unfolding written
  filled after f =
      let w = able c in
      filled_restored s (range 0 s.k) _ (written_given narrow s _ w.able) (shape_accepted s w.shape).n_high (padded_length narrow s _ w.able) nodes (put.long ∙ w.whole) there after f

pub size-requires : goal.size-requires
size-requires c =
    (able (goal.at.size-requires c).After-slice_known-1).shape

pub overflow_mul-k : goal.overflow_mul-k
overflow_mul-k c =
    let w = able (goal.at.overflow_mul-k c).After-slice_known-1 in
    omega (arith, (room (goal.at.overflow_mul-k c).After-slice_known-1 _ c.size.ensures).1, w.able.room)

pub store_data-requires : goal.store_data-requires
store_data-requires c =
    let w = able (goal.at.store_data-requires c).After-slice_known-1 in
    let e = c.size.ensures in
    (rw e w.able.room, (room (goal.at.store_data-requires c).After-slice_known-1 _ e).0)

pub slice_bounds-all-end : goal.slice_bounds-all-end
slice_bounds-all-end c =
    omega (arith, c.node_numbers-all.ensures.0, few (goal.at.slice_bounds-all-end c).After-slice_known-1)

pub slice_bounds-fill-end : goal.slice_bounds-fill-end
slice_bounds-fill-end c =
    sym (length-take-le _ _ (omega (arith, c.node_numbers-all.ensures.0, few (goal.at.slice_bounds-fill-end c).After-slice_known-1)))

pub fill-requires : goal.fill-requires
fill-requires c =
    let w = able (goal.at.fill-requires c).After-slice_known-1 in
    (w.shape, rw (c.node_numbers-all.ensures.1 _ (few (goal.at.fill-requires c).After-slice_known-1)) (fillable (goal.at.fill-requires c).After-slice_known-1 _ (rw c.size.ensures at c.store_data.ensures)))

pub shape_of-nodes : goal.shape_of-nodes
shape_of-nodes c =
    c.fill.ensures.long ∙ c.store_data.ensures.long

pub returns : goal.returns
unfolding written
returns c =
    filled (goal.at.returns c).After-slice_known-1 _ (rw c.size.ensures at c.store_data.ensures) _ (rw (c.node_numbers-all.ensures.1 _ (few (goal.at.returns c).After-slice_known-1)) at c.fill.ensures)
