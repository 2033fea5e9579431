-- Symbols of one node after the other changed at a place.
use mathlib.Core.Path.{◌≡◌, refl, sym, ap, ◌∙◌}
use mathlib.Core.Logic.{◌≢◌}
use mathlib.Core.List.{List}
use Prim.Native.Nat.{ℕ, ◌+◌, ◌*◌, ◌/◌, ◌%◌, ◌≤◌, ◌<◌}
use native.Mathlib.Decide.{ℕ_discrete}
use native.Mathlib.Omega.{arith}
use lib.Arith.{digits_div}
use lib.ListN.{length, get_or, set, length-set}
use lib.Seq.{get_or-set_same, get_or-set_other}
use Rattle.lists.specs.Lists.{element}
use Rattle.code.specs.Code.{narrow}
use Rattle.correcting.specs.Steps.{Changed}

module _ (first size place : ℕ) (by before : List ℕ) where
  pub changed_none : Changed first first size place by before before
  changed_none = record { long = refl; there = λ i h l. absurd (omega arith); other = λ e n. refl }

  -- the symbol of one node more
  pub changed_more : (m : ℕ) (now : List ℕ) → first ≤ m → place < size → m * size + place < length before → Changed first m size place by before now
      → Changed first (m + 1) size place by before (set now (m * size + place) ((get_or now (m * size + place) 0 + element by m) % narrow.modulus))
  changed_more m now low in-node room w = record { long = length-set now at x ∙ w.long; there = λ i h l. go i h (ℕ_discrete i m) l; other = rest }
    where
      at : ℕ
      at = m * size + place

      x : ℕ
      x = (get_or now (m * size + place) 0 + element by m) % narrow.modulus

      apart : (i : ℕ) → i ≢ m → i * size + place ≢ m * size + place
      apart i n e = n (sym (digits_div i in-node) ∙ ap (λ u. u / size) e ∙ digits_div m in-node)

      fresh : get_or now (m * size + place) 0 ≡ get_or before (m * size + place) 0
      fresh = w.other at (λ i h l e. apart i (omega arith) (sym e))

      go : (i : ℕ) → first ≤ i → Dec (i ≡ m) → i < m + 1
          → get_or (set now (m * size + place) x) (i * size + place) 0 ≡ (get_or before (i * size + place) 0 + element by i) % narrow.modulus
      go i h (yes e) l =
          ap (λ u. get_or (set now at x) (u * size + place) 0) e ∙ get_or-set_same now at x 0 (omega (arith, w.long))
          ∙ ap (λ u. (u + element by m) % narrow.modulus) fresh ∙ sym (ap (λ u. (get_or before (u * size + place) 0 + element by u) % narrow.modulus) e)
      go i h (no e) l = get_or-set_other now at (i * size + place) x 0 (apart i e) ∙ w.there i h (omega arith)

      rest : (e : ℕ) → ((i : ℕ) → first ≤ i → i < m + 1 → e ≢ i * size + place) → get_or (set now (m * size + place) x) e 0 ≡ get_or before e 0
      rest e n = get_or-set_other now at e x 0 (n m low (omega arith)) ∙ w.other e (λ i h l. n i h (omega arith))
