-- The messages on the wire: the helpers' come first, by receiver; then the exchanges.
use mathlib.Core.Path.{◌≡◌, sym, ap, ap₂, ◌∙◌}
use mathlib.Core.List.{List}
use Prim.Native.Nat.{ℕ, ◌+◌, ◌*◌, ◌-◌, ◌≤◌, ◌<◌}
use native.Mathlib.Nat.{mul-le-mul}
use native.Mathlib.Omega.{arith}
use borrow.Rule.Slice.PartMut.{put_mid}
use lib.ListN.{length, take, drop, length-drop}
use lib.Seq.{drop-drop}
use Rattle.lists.specs.Lists.{piece}
use Rattle.lists.proofs.Buffers.{part_of}
use Rattle.shape.specs.declared.Shape.{Shape}
use Rattle.shape.specs.Shape.{most_nodes}
use Rattle.shape.proofs.Accepted.{shape_accepted, most_size}
use Rattle.code.specs.Code.{narrow}
use Rattle.classes.specs.declared.Layout.{Layout}
use Rattle.classes.specs.Classes.{message_size}
use Rattle.classes.specs.Layout.{Ready}
use Rattle.classes.specs.Whole.{from_helpers}
use Rattle.solving.specs.Solving.{Put}
use Rattle.wiring.specs.Wires.{inward, inwards, to_rank, from_others}
use Rattle.classes.proofs.Dead.{Dead}
use Rattle.classes.proofs.Wire.{from_helpers_length}
use Rattle.classes.proofs.Layouts.{bounded, share_high}
use Rattle.lists.proofs.Parts.{row_within, piece_part, piece_front, tail_lent, tail_back}

pub helpers_length : {s : Shape} {dead : List ℕ} → Dead s dead → (helpers nodes : List ℕ) → length helpers ≡ s.k + 1 → (u : ℕ)
    → length (from_helpers narrow s dead helpers nodes u) ≡ inward s dead
unfolding inward
helpers_length D helpers nodes e u = from_helpers_length D narrow helpers nodes e u

-- what is to one rank goes by the helpers' messages alone
pub to_rank_front : (s : Shape) (dead : List ℕ) (u : ℕ) (l k : List ℕ) → u < length dead → inwards s dead ≤ length l → inwards s dead ≤ length k
    → take (inwards s dead) l ≡ take (inwards s dead) k → to_rank s dead u l ≡ to_rank s dead u k
unfolding to_rank inwards
to_rank_front s dead u l k h r q e = piece_front (length dead) (inward s dead) u l k h r q e

-- what is lent of the wire for rank u
pub lent_rank : (s : Shape) (dead : List ℕ) (told u : ℕ) (wire : List ℕ) → told ≡ inward s dead → take (u * told + told - u * told) (drop (u * told) wire) ≡ to_rank s dead u wire
unfolding to_rank
lent_rank s dead told u wire e = piece_part told u wire ∙ ap (λ z. piece z u wire) e

-- the parts of the wire are within it, and it is not long
pub record Room (dead : List ℕ) (g : Layout) (told u : ℕ) : Type 0 where
  pub part : u * told + told ≤ length dead * told
  pub all : length dead * told ≡ inwards g.shape dead
  pub short : length dead * told ≤ most_nodes * most_nodes * most_size
  pub small : told ≤ most_nodes * most_size

pub wire_room : {dead : List ℕ} {g : Layout} → Ready dead g → (told u : ℕ) → told ≡ inward g.shape dead → u < length dead → Room dead g told u
unfolding inwards inward
wire_room {dead} {g} R told u e l =
    let h = shape_accepted g.shape R.shaped in
    let t : told ≤ most_nodes * most_size = rw e (mul-le-mul {n₂ = most_nodes} {m₂ = most_size} (omega (arith, h.k_high, h.n_high)) (share_high R)) in
    record {
      part = row_within (length dead) told u l;
      all = ap (λ z. length dead * z) e;
      short = mul-le-mul {n₂ = most_nodes} {m₂ = most_nodes * most_size} (omega (arith, (bounded R).dead_high)) t;
      small = t;
    }

-- the part of the wire behind the helpers' messages was lent, and came back as p
pub tail_put : {Kind : ℕ → Type 0} {size : ℕ} {place value : ℕ → ℕ → ℕ} {Done : ℕ → ℕ → Type 0} (s : Shape) (dead : List ℕ) (b : ℕ) (l p : List ℕ) → b ≡ inwards s dead → b ≤ length l
    → Put Kind size place value Done (take (length l - b) (drop b l)) p
    → Put Kind size place value Done (drop (inwards s dead) l) (drop (inwards s dead) (put_mid b (length l - b) l p))
tail_put s dead b l p e h H =
    let q : length p ≡ length l - b = H.long ∙ ap length (tail_lent b l h) ∙ length-drop b l in
    rw (← e, tail_back b l h p q, ← (tail_lent b l h)) H

-- what is lent of the wire for rank u's second step
pub lent_others : (s : Shape) (dead : List ℕ) (base m u : ℕ) (wire : List ℕ) → base ≡ inwards s dead → m ≡ (length dead - 1) * message_size s dead
    → take (base + u * m + m - (base + u * m)) (drop (base + u * m) wire) ≡ from_others s dead u wire
unfolding from_others piece
lent_others s dead base m u wire e d =
    part_of (base + u * m) m wire ∙ ap (take m) (sym (drop-drop (u * m) base wire)) ∙ ap₂ (λ y z. take z (drop (u * z) (drop y wire))) e d
