-- The sums of a message one behind the other: their a are the members of the rank's class, over and over, once for each batch.
use mathlib.Core.Path.{◌≡◌, sym, ap, ◌∙◌}
use mathlib.Core.List.{List}
use Prim.Native.Nat.{ℕ, ◌+◌, ◌*◌, ◌/◌, ◌%◌, ◌^◌, ◌≤◌, ◌<◌}
use native.Mathlib.Omega.{arith}
use lib.ListN.{length, get_or}
use Rattle.lists.proofs.Places.{place_of}
use Rattle.classes.specs.declared.Layout.{Layout}
use Rattle.classes.specs.Classes.{rank_class, members, spot, spot_at, message_size}
use Rattle.classes.specs.Layout.{Ready, Fronted}
use Rattle.classes.proofs.Layouts.{ready_dead}
use Rattle.classes.proofs.Members.{members_few, class_size, member_spot}
use Rattle.solving.proofs.Entries.{Classed, classed}

-- each batch has a sum for each member
all_classed : {dead : List ℕ} {g : Layout} → Ready dead g → (u : ℕ) → Classed dead g u g.members
all_classed {dead} {g} R u = classed R u g.members (λ c h. R.members_is ∙ class_size (ready_dead R) c h)

-- a table with the class in front has the a of sum x
pub cycled : {dead : List ℕ} {g : Layout} → Ready dead g → (u : ℕ) (class : List ℕ) → Fronted dead (rank_class dead u) g.shape.n class → g.places ≤ length class
    → (x : ℕ) → x < message_size g.shape dead
    → (x % g.members < g.members) × (x % g.members < length class) × (get_or class (x % g.members) 0 ≡ (spot_at g.shape dead u x).a)
unfolding spot
cycled {dead} {g} R u class F room x h =
    let C = all_classed R u in
    let size = g.members in
    let p = place_of g.batches size x (rw C.sums at h) in
    let l : x % size < length (members dead (rank_class dead u) (2 ^ g.shape.n)) = omega (arith, p.place, C.is) in
    let e : x ≡ x / size * length (members dead (rank_class dead u) (2 ^ g.shape.n)) + x % size = sym p.whole ∙ ap (λ z. x / size * z + x % size) C.is in (
      p.place,
      omega (arith, l, members_few dead (rank_class dead u) (2 ^ g.shape.n), R.places_is),
      F.each (x % size) l ∙ sym (ap (λ z. (spot_at g.shape dead u z).a) e ∙ ap (λ z. z.a) (member_spot g.shape dead u (x / size) (x % size) (rw R.batches_is at p.row) l)),
    )
