-- `correcting::correct_all` meets its contract: one solve, then the byte's own symbol and one of each check node. Assumes nothing.
use mathlib.Core.Path.{◌≡◌, ap, ◌∙◌}
use Prim.Native.Nat.{◌/◌, ◌%◌, ◌<◌}
use native.Mathlib.Nat.{mod-lt}
use native.Mathlib.Omega.{arith}
use lib.ListN.{length, length-set}
use mir.Facts.{to_z-of_z}
use Rattle.lists.proofs.Places.{Place, place_of}
use Rattle.shape.specs.Shape.{most_nodes, size}
use Rattle.shape.proofs.Accepted.{shape_accepted}
use Rattle.code.specs.Code.{narrow}
use Rattle.correcting.specs.Signed.{to_residue}
use Rattle.correcting.specs.Steps.{Changes}
use Rattle.correcting.proofs.Signed.{change_accepted, residue_small}
use Rattle.correcting.proofs.Assembled.{byte_inside, changed_corrected}
use Rattle.correcting.proofs.correct_all.Goals as goal
use Rattle.correcting.proofs.correct_all.Goals.{After-changes-by, After-residue, After-size-each}

positive : (c : After-size-each) → 0 < c.size-each.result
positive c = rw c.size-each.ensures (shape_accepted _ c.requires.shape).size_low

spot : (c : After-size-each) → let a = c.args in Place a.s.k c.size-each.result a.byte
spot c = place_of _ _ _ (rw c.size-each.ensures c.requires.within)

residue_is : (c : After-residue) → c.residue.result ≡ to_residue narrow.modulus c.args.change
residue_is c = c.residue.ensures ∙ ap (to_residue narrow.modulus) (to_z-of_z c.ranges.change)

pub residue-requires : goal.residue-requires
residue-requires c = rw (to_z-of_z c.ranges.change) (change_accepted _ _ c.requires.change).range

pub changes-by-requires : goal.changes-by-requires
changes-by-requires c = (c.requires.shape, (spot (goal.at.changes-by-requires c).After-size-each).row, rw (residue_is c) (residue_small _ _ (omega arith)))

few : (c : After-size-each) → let a = c.args in a.byte / c.size-each.result < most_nodes
few c = let w = shape_accepted _ c.requires.shape in omega (arith, (spot c).row, w.k_high, w.n_high)

-- what the solve gave, at the shape's size
changes_are : (c : After-changes-by) →
    let a = c.args in
    Changes a.s (a.byte / size a.s) (a.byte % size a.s) (to_residue narrow.modulus a.change) c.changes-by.result
changes_are c = rw (← residue_is (goal.at.After-changes-by c).After-residue, ← c.size-each.ensures) c.changes-by.ensures

inside : (c : After-changes-by) → let a = c.args in a.byte < length a.nodes.now
inside c = byte_inside _ _ _ _ c.requires _ (changes_are c)

pub change_checks-requires : goal.change_checks-requires
change_checks-requires c =
    (c.requires.shape, rw c.size-each.ensures (mod-lt _ (shape_accepted _ c.requires.shape).size_low), ap length c.add_to.ensures ∙ length-set c.args.nodes.now c.args.byte _ ∙ c.requires.long)

pub shape_of-nodes : goal.shape_of-nodes
shape_of-nodes c =
    let a = c.args in
    c.change_checks.ensures.long ∙ ap length c.add_to.ensures ∙ length-set a.nodes.now a.byte _

pub returns : goal.returns
returns c =
    let d = (goal.at.returns c).After-changes-by in
    changed_corrected d.args.s d.args.nodes.now d.args.byte d.args.change d.requires _ (changes_are d) _
    (rw (c.add_to.ensures, d.size-each.ensures) at c.change_checks.ensures)

pub size-each-requires : goal.size-each-requires
size-each-requires c = c.requires.shape

pub nonzero_div-byte : goal.nonzero_div-byte
nonzero_div-byte c = positive c

pub nonzero_rem-byte : goal.nonzero_rem-byte
nonzero_rem-byte c = positive c

pub nonzero_div-byte-2 : goal.nonzero_div-byte-2
nonzero_div-byte-2 c = positive (goal.at.nonzero_div-byte-2 c).After-size-each

pub offset_bounds-by-byte : goal.offset_bounds-by-byte
offset_bounds-by-byte c = omega (arith, few (goal.at.offset_bounds-by-byte c).After-size-each)

pub bounds-by-byte : goal.bounds-by-byte
bounds-by-byte c = few (goal.at.bounds-by-byte c).After-size-each

pub add_to-requires : goal.add_to-requires
add_to-requires c = inside (goal.at.add_to-requires c).After-changes-by

pub nonzero_rem-byte-2 : goal.nonzero_rem-byte-2
nonzero_rem-byte-2 c = positive (goal.at.nonzero_rem-byte-2 c).After-size-each
