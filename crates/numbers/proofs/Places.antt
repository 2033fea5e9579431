-- Numbers at a place of some bytes: what reading there says of the bytes from the place on.
use mathlib.Core.Path.{◌≡◌, refl, sym, ap, ◌∙◌}
use mathlib.Core.Logic.{◌⊎◌, inl, inr}
use mathlib.Core.List.{List, ◌∷◌}
use Prim.Native.Nat.{ℕ, zero, suc, ◌+◌, ◌-◌, ◌≤◌, ◌<◌}
use native.Mathlib.Decide.{ℕ_discrete}
use native.Mathlib.Omega.{arith}
use borrow.Author.Tests.{eq-eqb}
use lib.ListN.{length, get_or, drop, drop_of_length-le, length-drop}
use Rattle.lists.proofs.Tests.{below_or_not}
use Rattle.lists.proofs.Scans.{drop_next}
use Rattle.std.specs.Prelude.{Option, Some, None}
use Rattle.numbers.specs.declared.Number.{Number}
use Rattle.numbers.specs.Numbers.{read_to, group_values, Found, value, malformed, grouped, read_number, placed, number_at}
use Rattle.numbers.proofs.Numbers.{read_one, read_more, grouped_more, never, value_parts}
use Rattle.numbers.proofs.Groups.{read_none}

-- a number read at a place: the bytes behind it are those from a later place on
pub read_behind : (groups : ℕ) (bytes : List ℕ) (at v : ℕ) (rest : List ℕ) → read_number groups (drop at bytes) ≡ value v rest
    → rest ≡ drop (length bytes - length rest) bytes
read_behind zero bytes at v rest e = absurd (unfold read_number in never e)
read_behind (suc groups) bytes at v rest e = go (below_or_not at (length bytes)) (read_behind groups bytes (at + 1))
  where
    b : ℕ
    b = get_or bytes at 0

    go : (at < length bytes) ⊎ (length bytes ≤ at)
        → ((w : ℕ) (r : List ℕ) → read_number groups (drop (at + 1) bytes) ≡ value w r → r ≡ drop (length bytes - length r) bytes) → rest ≡ drop (length bytes - length rest) bytes
    go (inr h) ih = absurd (never (sym (read_none (suc groups)) ∙ ap (read_number (suc groups)) (sym (drop_of_length-le bytes h)) ∙ e))
    go (inl h) ih = byte (below_or_not b group_values)
      where
        here : read_number (suc groups) (b ∷ drop (at + 1) bytes) ≡ value v rest
        here = ap (read_number (suc groups)) (sym (drop_next bytes at 0 h)) ∙ e

        more : (f : Found) → read_number groups (drop (at + 1) bytes) ≡ f → grouped (b - group_values) f ≡ value v rest → rest ≡ drop (length bytes - length rest) bytes
        more malformed d q = absurd (unfold grouped in never q)
        more (value w r) d q = last (ℕ_discrete w 0)
          where
            last : Dec (w ≡ 0) → rest ≡ drop (length bytes - length rest) bytes
            last (yes z) = absurd (unfold grouped in never (rw (eq-eqb w 0 z) at q))
            last (no z) = rw (← (value_parts (sym (grouped_more (b - group_values) w r (omega (arith, z))) ∙ q)).1) (ih w r d)

        byte : (b < group_values) ⊎ (group_values ≤ b) → rest ≡ drop (length bytes - length rest) bytes
        byte (inl l) =
            let p = value_parts (sym (read_one groups b (drop (at + 1) bytes) l) ∙ here) in
            rw (← p.1) (ap (λ k. drop k bytes) (let k : at + 1 ≡ length bytes - length (drop (at + 1) bytes) = omega (arith, length-drop (at + 1) bytes) in k))
        byte (inr l) = more (read_number groups (drop (at + 1) bytes)) refl (sym (read_more groups b (drop (at + 1) bytes) l) ∙ here)

-- what was read
value_of : Option Number → ℕ
value_of None = 0
value_of (Some x) = x.value

next_of : Option Number → ℕ
next_of None = 0
next_of (Some x) = x.next

pub read_same : {v next w more : ℕ} → read_to v next ≡ read_to w more → (v ≡ w) × (next ≡ more)
unfolding value_of next_of
read_same e = (ap value_of e, ap next_of e)

-- what was read at a place, in terms of the bytes from the place on
module _ (groups : ℕ) (bytes : List ℕ) (at : ℕ) where
  pub number_bad : number_at groups bytes at ≡ None → read_number groups (drop at bytes) ≡ malformed
  unfolding number_at placed
  number_bad e = go (read_number groups (drop at bytes)) refl e
    where
      go : (f : Found) → read_number groups (drop at bytes) ≡ f → placed (length bytes) f ≡ None → read_number groups (drop at bytes) ≡ malformed
      go malformed d q = d
      go (value v rest) d q = absurd (let z : ◌≡◌ {A = ℕ} 0 1 = cc in omega arith)

  module _ (v next : ℕ) (e : number_at groups bytes at ≡ read_to v next) where
    pub number_read : read_number groups (drop at bytes) ≡ value v (drop next bytes)
    unfolding number_at placed
    number_read = go (read_number groups (drop at bytes)) refl e
      where
        go : (f : Found) → read_number groups (drop at bytes) ≡ f → placed (length bytes) f ≡ read_to v next → read_number groups (drop at bytes) ≡ value v (drop next bytes)
        go malformed d q = absurd (let z : ◌≡◌ {A = ℕ} 0 1 = cc in omega arith)
        go (value w rest) d q =
            let same = read_same q in
            rw (← same.0, ← same.1) (d ∙ ap (value w) (read_behind groups bytes at w rest d))

    pub number_inside : next ≤ length bytes
    unfolding number_at placed
    number_inside = go (read_number groups (drop at bytes)) e
      where
        go : (f : Found) → placed (length bytes) f ≡ read_to v next → next ≤ length bytes
        go malformed q = absurd (let z : ◌≡◌ {A = ℕ} 0 1 = cc in omega arith)
        go (value w rest) q = omega (arith, (read_same q).1)
