-- The values at the other entries: the Vandermonde equations of their points, with what the known values lack on the right.
use mathlib.Core.Path.{◌≡◌, sym, ap, ◌∙◌}
use mathlib.Core.List.{List}
use Prim.Native.Nat.{ℕ, ◌≤◌, ◌<◌}
use native.Mathlib.Omega.{arith}
use lib.ListN.{length, take}
use lib.Seq.{get_or-take, length-take-le}
use Rattle.lists.specs.Lists.{element}
use Rattle.lists.proofs.Others.{others_length}
use Rattle.column.specs.Solving.{most_entries}
use Rattle.column.proofs.Completing.{rest_rising, missing_by}
use Rattle.completion.proofs.missing.Goals as goal
use Rattle.completion.proofs.missing.Goals.{Start}

-- the modulus, the known and the unknown entries
bounds : (c : Start) → (1 < c.args.q) × (length c.args.list.now ≤ most_entries) × (length c.args.unknown.now ≤ most_entries)
bounds c =
    let w = c.requires.0 in
    let n = length c.args.points.now in
    let few = w.few in
    let count = others_length n c.args.list.now w.up in
    let same = ap length c.requires.1 in
    (w.prime.big, omega arith, omega arith)

-- the known points, in front of their array
known_long : (c : Start) (out : List ℕ) → length out ≡ most_entries → length (take (length c.args.list.now) out) ≡ length c.args.list.now
known_long c out e = length-take-le _ _ (omega (arith, bounds c))

pub slice_bounds-known-end : goal.slice_bounds-known-end
slice_bounds-known-end c = omega (arith, bounds (goal.at.slice_bounds-known-end c).Start, c.gathered-known.ensures.0)

pub slice_bounds-right_side-end : goal.slice_bounds-right_side-end
slice_bounds-right_side-end c = sym (known_long (goal.at.slice_bounds-right_side-end c).Start _ c.gathered-known.ensures.0)

pub right_side-right-requires : goal.right_side-right-requires
right_side-right-requires c =
    let s = (goal.at.right_side-right-requires c).Start in
    let long = known_long s c.gathered-known.result c.gathered-known.ensures.0 in
    ((bounds s).0, (bounds s).2, omega (arith, bounds s, long), s.requires.0.each ∙ sym long)

pub gathered-requires : goal.gathered-requires
gathered-requires c =
    (c.requires.0.few, rw c.requires.1 (rest_rising c.args.q _ _ _ c.requires.0))

pub vandermonde-requires : goal.vandermonde-requires
vandermonde-requires c = let w = bounds (goal.at.vandermonde-requires c).Start in (w.0, w.2)

pub solve-requires : goal.solve-requires
solve-requires c = let w = bounds (goal.at.solve-requires c).Start in (w.0, w.2)

pub returns : goal.returns
returns c =
    let s = (goal.at.returns c).Start in
    let same = s.requires.1 in
    let known = c.gathered-known in
    missing_by s.args.q s.args.points.now s.args.list.now s.args.values.now s.requires.0
    (length s.args.unknown.now) (ap length same)
    (take (length s.args.list.now) known.result) c.gathered.result c.right_side-right.result
    c.solve.result c.vandermonde.result
    (known_long s _ known.ensures.0)
    (λ j h. get_or-take _ known.result j 0 h ∙ known.ensures.1 j h)
    c.right_side-right.ensures
    (λ j h. c.gathered.ensures.1 j h ∙ ap (λ u. element s.args.points.now (element u j)) same)
    c.vandermonde.ensures
    c.solve.ensures
