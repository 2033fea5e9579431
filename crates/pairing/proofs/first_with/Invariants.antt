-- `pairing::first_with` meets its contract: the sums of the members passed are done, in every batch. Assumes nothing.
use mathlib.Core.Path.{◌≡◌}
use mathlib.Core.Bool.{false}
use Prim.Native.Nat.{◌-◌, ◌≤◌}
use lib.ListN.{length}
use Rattle.code.specs.Code.{narrow}
use Rattle.rows.specs.Rows.{Low}
use Rattle.tables.specs.Tables.{table_size}
use Rattle.filling.specs.Filling.{Below}
use Rattle.solving.specs.Solving.{pair_place, Owned, HandedOut}
use Rattle.pairing.proofs.first_with.Given as goal

abbrev pub invariant-loop-first : goal.invariant-loop-first
invariant-loop-first l =
    (l.first ≤ l.size) × (length l.table ≡ table_size) × Low narrow.modulus l.table × Owned l.g.shape l.dead l.helpers l.u l.messages pair_place (Below l.size l.first) l.initial.pairs l.pairs
    × HandedOut l.g.shape l.dead l.helpers l.u l.messages false (Below l.size l.first) l.initial.sums l.sums

abbrev pub decreases-loop-first : goal.decreases-loop-first
decreases-loop-first l = l.size - l.first
