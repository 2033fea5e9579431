-- Which message is whose among those that new nodes hand out.
use mathlib.Core.Path.{◌≡◌, sym, ap, ap₂, ◌∙◌}
use mathlib.Core.Logic.{◌≢◌}
use mathlib.Core.Bool.{Bool, true, false}
use Prim.Native.Nat.{ℕ, ◌+◌, ◌*◌, ◌-◌, ◌/◌, ◌%◌, ◌≤◌, ◌<◌}
use native.Mathlib.Nat.{mul-le-mul}
use native.Mathlib.Omega.{arith}
use lib.Arith.{digits_lt, digits_div, digits_mod}
use Rattle.shape.specs.Shape.{most_nodes}
use Rattle.classes.specs.Steps.{place, other_rank}
use Rattle.solving.specs.Solving.{slot_of, slots}
use Rattle.classes.proofs.Placing.{place_below, other_place}

module _ (h u : ℕ) (l : u < h) where
  pub slot_lt : (all : Bool) (v : ℕ) → v < h → v ≢ u → slot_of all h u v < slots all h
  unfolding slot_of slots
  slot_lt true v m d = digits_lt m (place_below h v u m l (λ e. d (sym e)))
  slot_lt false v m d = place_below h u v l m d

  -- no two ranks have one message
  pub slot_own : (all : Bool) (v w : ℕ) → v < h → w < h → v ≢ u → w ≢ u → slot_of all h u v ≡ slot_of all h u w → v ≡ w
  unfolding slot_of
  slot_own true v w m n d f e =
      sym (digits_div v (place_below h v u m l (λ z. d (sym z)))) ∙ ap (λ z. z / (h - 1)) e ∙ digits_div w (place_below h w u n l (λ z. f (sym z)))
  slot_own false v w m n d f e = sym (other_place h u v l m d) ∙ ap (other_rank u) e ∙ other_place h u w l n f

  -- symbols of messages of M symbols stand apart
  pub slot_symbol_own : (all : Bool) (M v x w y : ℕ) → v < h → w < h → v ≢ u → w ≢ u → x < M → y < M
      → slot_of all h u v * M + x ≡ slot_of all h u w * M + y → (v ≡ w) × (x ≡ y)
  slot_symbol_own all M v x w y m n d f k q e = (
    slot_own all v w m n d f (sym (digits_div (slot_of all h u v) k) ∙ ap (λ z. z / M) e ∙ digits_div (slot_of all h u w) q),
    sym (digits_mod (slot_of all h u v) k) ∙ ap (λ z. z % M) e ∙ digits_mod (slot_of all h u w) q,
  )

-- among all exchanges, the messages of two senders stand apart
pub senders_apart : (h M u v x t w y : ℕ) → u < h → v < h → v ≢ u → t < h → w < h → w ≢ t → x < M → y < M
    → slot_of true h u v * M + x ≡ slot_of true h t w * M + y → u ≡ t
unfolding slot_of
senders_apart h M u v x t w y a b d e f g k l q =
    let s : v * (h - 1) + place v u ≡ w * (h - 1) + place w t = sym (digits_div (v * (h - 1) + place v u) k) ∙ ap (λ z. z / M) q ∙ digits_div (w * (h - 1) + place w t) l in
    let p = place_below h v u b a (λ z. d (sym z)) in
    let r = place_below h w t f e (λ z. g (sym z)) in
    let same : v ≡ w = sym (digits_div v p) ∙ ap (λ z. z / (h - 1)) s ∙ digits_div w r in
    let at : place v u ≡ place w t = sym (digits_mod v p) ∙ ap (λ z. z % (h - 1)) s ∙ digits_mod w r in
    sym (other_place h v u b a (λ z. d (sym z))) ∙ ap₂ other_rank same at ∙ other_place h w t f e (λ z. g (sym z))

-- there are few messages
pub slots_few : (all : Bool) (h : ℕ) → h ≤ most_nodes → slots all h ≤ most_nodes * most_nodes
unfolding slots
slots_few true h l = mul-le-mul {n₂ = most_nodes} {m₂ = most_nodes} l (omega arith)
slots_few false h l = omega arith
